-- Tests that hold together, and equations that can't be.
use Rattle.std.proofs.Common.{◌≡◌, List, [], ◌∷◌, ◌++◌, Bool, true, false, ◌&&◌, ◌||◌, ◌⊎◌, inl, inr, Option, Some, None, bytes_eq, refl, subst, sym}
use Rattle.std.specs.Prelude.{not, is_none}
use Rattle.std.specs.List.{list_all}
use Rattle.std.proofs.lemmas.Slice.Eq.{bytes_eq-Decides}
use Rattle.hub_cells.specs.Level.{Name}
use Rattle.hub_cells.specs.Fit.{has_name}

pub lies : false ≡ true → ⊥
lies e = cc

pub both_true : (a b : Bool) → (a && b) ≡ true → (a ≡ true) × (b ≡ true)
both_true true b h = (refl, h)
both_true false b h = absurd (lies h)

pub and_true : (a b : Bool) → a ≡ true → b ≡ true → (a && b) ≡ true
and_true true b h k = k
and_true false b h k = absurd (lies h)

pub or_right : (a b : Bool) → (a || b) ≡ true → a ≡ false → b ≡ true
or_right true b h k = absurd (lies (sym k))
or_right false b h k = h

pub not_true : (a : Bool) → not a ≡ true → a ≡ false
not_true true h = absurd (lies h)
not_true false h = refl

pub none_some : {A : Type 0} (x : A) → None ≡ Some x → ⊥
none_some x e = cc

pub some_is : {A : Type 0} (x y : A) → Some x ≡ Some y → x ≡ y
some_is x y e = cc

pub nothing : {A : Type 0} (o : Option A) → is_none o ≡ true → o ≡ None
nothing None h = refl
nothing (Some x) h = absurd (lies h)

-- ---- names of a list

pub has_left : (k : Name) (ns ms : List Name) → has_name k ns ≡ true → has_name k (ns ++ ms) ≡ true
has_left k [] ms h = absurd (lies h)
has_left k (n ∷ ns) ms h = by_name (bytes_eq k n) (has_left k ns ms) h
  where
    by_name : (b : Bool) → (has_name k ns ≡ true → has_name k (ns ++ ms) ≡ true) → (b || has_name k ns) ≡ true → (b || has_name k (ns ++ ms)) ≡ true
    by_name true later q = refl
    by_name false later q = later q

pub has_right : (k : Name) (ns ms : List Name) → has_name k ms ≡ true → has_name k (ns ++ ms) ≡ true
has_right k [] ms h = h
has_right k (n ∷ ns) ms h = by_name (bytes_eq k n) (has_right k ns ms h)
  where
    by_name : (b : Bool) → has_name k (ns ++ ms) ≡ true → (b || has_name k (ns ++ ms)) ≡ true
    by_name true q = refl
    by_name false q = q

pub has_split : (k : Name) (ns ms : List Name) → has_name k (ns ++ ms) ≡ true → (has_name k ns ≡ true) ⊎ (has_name k ms ≡ true)
has_split k [] ms h = inr h
has_split k (n ∷ ns) ms h = by_name (bytes_eq k n) (has_split k ns ms) h
  where
    later_on : (b : Bool) → (has_name k ns ≡ true) ⊎ (has_name k ms ≡ true) → ((b || has_name k ns) ≡ true) ⊎ (has_name k ms ≡ true)
    later_on true q = inl refl
    later_on false q = q

    by_name : (b : Bool) → (has_name k (ns ++ ms) ≡ true → (has_name k ns ≡ true) ⊎ (has_name k ms ≡ true)) → (b || has_name k (ns ++ ms)) ≡ true → ((b || has_name k ns) ≡ true) ⊎ (has_name k ms ≡ true)
    by_name true later q = inl refl
    by_name false later q = later_on false (later q)

-- what is so of the first name and of each later one
pub at_name : (P : Name → Type 0) (k n : Name) (ns : List Name) → P n → (has_name k ns ≡ true → P k) → has_name k (n ∷ ns) ≡ true → P k
at_name P k n ns here later h = by_name (bytes_eq k n) ((bytes_eq-Decides k n).0) h
  where
    by_name : (b : Bool) → (b ≡ true → k ≡ n) → (b || has_name k ns) ≡ true → P k
    by_name true q g = subst P (sym (q refl)) here
    by_name false q g = later g

-- a test that each name passes
pub all_at : (p : Name → Bool) (ns : List Name) (k : Name) → list_all p ns ≡ true → has_name k ns ≡ true → p k ≡ true
all_at p [] k h m = absurd (lies m)
all_at p (n ∷ ns) k h m =
    let q = both_true (p n) (list_all p ns) h in
    at_name (λ l. p l ≡ true) k n ns q.0 (λ i. all_at p ns k q.1 i) m

pub all_of : (p : Name → Bool) (ns : List Name) → ((k : Name) → has_name k ns ≡ true → p k ≡ true) → list_all p ns ≡ true
all_of p [] h = refl
all_of p (n ∷ ns) h = and_true (p n) (list_all p ns) (h n (first (bytes_eq n n) ((bytes_eq-Decides n n).1 refl))) (all_of p ns (λ k m. h k (more (bytes_eq k n) (has_name k ns) m)))
  where
    first : (b : Bool) → b ≡ true → (b || has_name n ns) ≡ true
    first true q = refl
    first false q = absurd (lies q)

    more : (a b : Bool) → b ≡ true → (a || b) ≡ true
    more true b q = refl
    more false b q = q
