-- Names in lists: where they stand, and lists in which none stands twice.
use Rattle.std.proofs.Common.{◌≡◌, List, [], ◌∷◌, ◌++◌, Bool, true, false, ◌||◌, refl, ap, sym, subst, ◌∙◌}
use Rattle.std.specs.Str.{bytes_eq}
use Rattle.std.proofs.lemmas.Bool.{false≢true}
use Rattle.std.proofs.lemmas.Slice.Eq.{bytes_eq-Decides}
use Rattle.hub_cells.specs.Level.{Name, IsFresh, AreDistinct}
use Rattle.hub_cells.specs.Fit.{has_name}

pub or_assoc : (a b c : Bool) → (a || (b || c)) ≡ ((a || b) || c)
or_assoc true b c = refl
or_assoc false b c = refl

pub or_swap : (a b c : Bool) → (a || (b || c)) ≡ (b || (a || c))
or_swap true true c = refl
or_swap true false c = refl
or_swap false b c = refl

pub or_left : (a b : Bool) → (a || b) ≡ false → a ≡ false
or_left true b h = absurd (false≢true (sym h))
or_left false b h = refl

pub or_right : (a b : Bool) → (a || b) ≡ false → b ≡ false
or_right true b h = absurd (false≢true (sym h))
or_right false b h = h

pub or_none : (a b : Bool) → a ≡ false → b ≡ false → (a || b) ≡ false
or_none a b h k = rw (h, k) refl

pub or_first : (a b : Bool) → a ≡ true → (a || b) ≡ true
or_first a b h = rw h refl

pub or_second : (a b : Bool) → b ≡ true → (a || b) ≡ true
or_second true b h = refl
or_second false b h = h

pub has_append : (k : Name) (xs ys : List Name) → has_name k (xs ++ ys) ≡ (has_name k xs || has_name k ys)
has_append k [] ys = refl
has_append k (x ∷ xs) ys =
    ap (λ (b : Bool). bytes_eq k x || b) (has_append k xs ys) ∙ or_assoc (bytes_eq k x) (has_name k xs) (has_name k ys)

-- names xs among others
pub has_middle : (k : Name) (ws xs bs : List Name) → has_name k (ws ++ (xs ++ bs)) ≡ (has_name k xs || has_name k (ws ++ bs))
has_middle k ws xs bs =
    has_append k ws (xs ++ bs) ∙ ap (λ (b : Bool). has_name k ws || b) (has_append k xs bs) ∙ or_swap (has_name k ws) (has_name k xs) (has_name k bs)
    ∙ ap (λ (b : Bool). has_name k xs || b) (sym (has_append k ws bs))

pub self : (k : Name) → bytes_eq k k ≡ true
self k = (bytes_eq-Decides k k).1 refl

pub fresh : (k : Name) (ns : List Name) → has_name k ns ≡ false → IsFresh k ns
fresh k [] h = tt
fresh k (n ∷ ns) h =
    (λ e. false≢true (sym (or_left (bytes_eq k n) (has_name k ns) h) ∙ (bytes_eq-Decides k n).1 e), fresh k ns (or_right (bytes_eq k n) (has_name k ns) h))

pub not_fresh : (k : Name) (ns : List Name) → IsFresh k ns → has_name k ns ≡ false
not_fresh k [] h = refl
not_fresh k (n ∷ ns) h = or_none (bytes_eq k n) (has_name k ns) (by_test (bytes_eq k n) refl) (not_fresh k ns h.1)
  where
    by_test : (b : Bool) → bytes_eq k n ≡ b → b ≡ false
    by_test true e = absurd (h.0 ((bytes_eq-Decides k n).0 e))
    by_test false e = refl

-- no name is in both
abbrev pub Apart : List Name → List Name → Type 0
Apart xs ys = (k : Name) → has_name k xs ≡ true → has_name k ys ≡ false

pub distinct_append : (xs ys : List Name) → AreDistinct xs → AreDistinct ys → Apart xs ys → AreDistinct (xs ++ ys)
distinct_append [] ys p q h = q
distinct_append (x ∷ xs) ys p q h =
    (fresh x (xs ++ ys) (has_append x xs ys ∙ or_none (has_name x xs) (has_name x ys) (not_fresh x xs p.0) (h x (or_first (bytes_eq x x) (has_name x xs) (self x)))), distinct_append xs ys p.1 q (λ k e. h k (or_second (bytes_eq k x) (has_name k xs) e)))

distinct_left : (xs ys : List Name) → AreDistinct (xs ++ ys) → AreDistinct xs
distinct_left [] ys p = tt
distinct_left (x ∷ xs) ys p =
    (fresh x xs (or_left (has_name x xs) (has_name x ys) (sym (has_append x xs ys) ∙ not_fresh x (xs ++ ys) p.0)), distinct_left xs ys p.1)

pub distinct_right : (xs ys : List Name) → AreDistinct (xs ++ ys) → AreDistinct ys
distinct_right [] ys p = p
distinct_right (x ∷ xs) ys p = distinct_right xs ys p.1

apart_parts : (xs ys : List Name) → AreDistinct (xs ++ ys) → Apart xs ys
apart_parts [] ys p k e = absurd (false≢true e)
apart_parts (x ∷ xs) ys p k e = by_test (bytes_eq k x) refl e (apart_parts xs ys p.1 k)
  where
    by_test : (b : Bool) → bytes_eq k x ≡ b → (b || has_name k xs) ≡ true → (has_name k xs ≡ true → has_name k ys ≡ false) → has_name k ys ≡ false
    by_test true q f later =
        let same : x ≡ k = sym ((bytes_eq-Decides k x).0 q) in
        subst (λ (z : Name). has_name z ys ≡ false) same (or_right (has_name x xs) (has_name x ys) (sym (has_append x xs ys) ∙ not_fresh x (xs ++ ys) p.0))
    by_test false q f later = later f

-- names xs put among others
pub distinct_middle : (ws xs bs : List Name) → AreDistinct (ws ++ bs) → AreDistinct xs → Apart xs (ws ++ bs) → AreDistinct (ws ++ (xs ++ bs))
distinct_middle ws xs bs p q h =
    let after : Apart xs bs = λ k e. or_right (has_name k ws) (has_name k bs) (sym (has_append k ws bs) ∙ h k e) in
    let before : Apart ws (xs ++ bs) = λ k e. has_append k xs bs ∙ or_none (has_name k xs) (has_name k bs) (by_test k e (has_name k xs) refl) (apart_parts ws bs p k e) in
    distinct_append ws (xs ++ bs) (distinct_left ws bs p) (distinct_append xs bs q (distinct_right ws bs p) after) before
  where
    by_test : (k : Name) → has_name k ws ≡ true → (b : Bool) → has_name k xs ≡ b → b ≡ false
    by_test k e true f = absurd (false≢true (sym (or_left (has_name k ws) (has_name k bs) (sym (has_append k ws bs) ∙ h k f)) ∙ e))
    by_test k e false f = refl
