-- A name of a level finds the cell or the object that has it, and no other.
use Rattle.std.proofs.Common.{◌≡◌, List, [], ◌∷◌, ◌++◌, Bool, true, false, ◌||◌, cond, ◌⊎◌, inl, inr, Some, refl, ap, sym, subst, ◌∙◌}
use Rattle.std.specs.Str.{bytes_eq}
use Rattle.std.proofs.lemmas.Bool.{false≢true}
use Rattle.std.proofs.lemmas.Slice.Eq.{bytes_eq-Decides}
use Rattle.hub_cells.specs.Side.{hub}
use Rattle.hub_cells.specs.Level.{Name, Cell, names, Level, Inners, no_inner, inner, cells_names, inner_names, IsFresh, AreDistinct}
use Rattle.hub_cells.specs.Fit.{has_name}
use Rattle.hub_fills.specs.Lookups.{cell_at, level_at}

pub same_name : (k : Name) → bytes_eq k k ≡ true
same_name k = (bytes_eq-Decides k k).1 refl

pub one_name : (k n : Name) → bytes_eq k n ≡ true → k ≡ n
one_name k n h = (bytes_eq-Decides k n).0 h

-- the name is the first one, or among the others
pub has_cases : (k n : Name) (ns : List Name) → has_name k (n ∷ ns) ≡ true → (k ≡ n) ⊎ (has_name k ns ≡ true)
has_cases k n ns h = by_test (bytes_eq k n) refl h
  where
    by_test : (b : Bool) → bytes_eq k n ≡ b → (b || has_name k ns) ≡ true → (k ≡ n) ⊎ (has_name k ns ≡ true)
    by_test true q g = inl (one_name k n q)
    by_test false q g = inr g

or_second : (a b : Bool) → b ≡ true → (a || b) ≡ true
or_second true b h = refl
or_second false b h = h

or_first : (a b : Bool) → a ≡ true → (a || b) ≡ true
or_first true b h = refl
or_first false b h = absurd (false≢true h)

has_right : (k : Name) (ns ms : List Name) → has_name k ms ≡ true → has_name k (ns ++ ms) ≡ true
has_right k [] ms h = h
has_right k (n ∷ ns) ms h = or_second (bytes_eq k n) (has_name k (ns ++ ms)) (has_right k ns ms h)

has_left : (k : Name) (ns ms : List Name) → has_name k ns ≡ true → has_name k (ns ++ ms) ≡ true
has_left k [] ms h = absurd (false≢true h)
has_left k (n ∷ ns) ms h = by_case (has_left k ns ms) (has_cases k n ns h)
  where
    by_case : (has_name k ns ≡ true → has_name k (ns ++ ms) ≡ true) → (k ≡ n) ⊎ (has_name k ns ≡ true) → has_name k (n ∷ (ns ++ ms)) ≡ true
    by_case later (inl q) = or_first (bytes_eq k n) (has_name k (ns ++ ms)) (subst (λ (m : Name). bytes_eq k m ≡ true) q (same_name k))
    by_case later (inr g) = or_second (bytes_eq k n) (has_name k (ns ++ ms)) (later g)

fresh_not : (k : Name) (ns : List Name) → IsFresh k ns → has_name k ns ≡ true → ⊥
fresh_not k [] f h = false≢true h
fresh_not k (n ∷ ns) f h = by_case (fresh_not k ns f.1) (has_cases k n ns h)
  where
    by_case : (has_name k ns ≡ true → ⊥) → (k ≡ n) ⊎ (has_name k ns ≡ true) → ⊥
    by_case later (inl q) = f.0 q
    by_case later (inr g) = later g

apart : (k : Name) (ns ms : List Name) → AreDistinct (ns ++ ms) → has_name k ns ≡ true → has_name k ms ≡ true → ⊥
apart k [] ms d h g = false≢true h
apart k (n ∷ ns) ms d h g = by_case (λ f. apart k ns ms d.1 f g) (has_cases k n ns h)
  where
    by_case : (has_name k ns ≡ true → ⊥) → (k ≡ n) ⊎ (has_name k ns ≡ true) → ⊥
    by_case later (inl q) = fresh_not n (ns ++ ms) d.0 (subst (λ (m : Name). has_name m (ns ++ ms) ≡ true) q (has_right k ns ms g))
    by_case later (inr f) = later f

pub distinct_right : (ns ms : List Name) → AreDistinct (ns ++ ms) → AreDistinct ms
distinct_right [] ms d = d
distinct_right (n ∷ ns) ms d = distinct_right ns ms d.1

pub distinct_inner : (cs : List Cell) (ns : List Name) → AreDistinct (cells_names hub cs ns) → AreDistinct ns
distinct_inner [] ns d = d
distinct_inner (c ∷ cs) ns d = distinct_inner cs ns (distinct_right (names hub c) (cells_names hub cs ns) d)

-- ---- cells

abbrev pub HasCell : Cell → List Cell → Type 0
HasCell c [] = ⊥
HasCell c (e ∷ cs) = (c ≡ e) ⊎ HasCell c cs

among : (k : Name) (c : Cell) (cs : List Cell) (ns : List Name) → HasCell c cs → has_name k (names hub c) ≡ true → has_name k (cells_names hub cs ns) ≡ true
among k c [] ns i h = absurd i
among k c (e ∷ cs) ns (inl q) h =
    has_left k (names hub e) (cells_names hub cs ns) (subst (λ (x : Cell). has_name k (names hub x) ≡ true) q h)
among k c (e ∷ cs) ns (inr i) h = has_right k (names hub e) (cells_names hub cs ns) (among k c cs ns i h)

pub cell_found : (k : Name) (c : Cell) (cs : List Cell) (ns : List Name) → AreDistinct (cells_names hub cs ns) → HasCell c cs → has_name k (names hub c) ≡ true → cell_at k cs ≡ Some c
cell_found k c [] ns d i h = absurd i
cell_found k c (e ∷ cs) ns d (inl q) h =
    ap (λ (b : Bool). cond b (Some e) (cell_at k cs)) (subst (λ (x : Cell). has_name k (names hub x) ≡ true) q h) ∙ ap Some (sym q)
cell_found k c (e ∷ cs) ns d (inr i) h =
    by_test (cell_found k c cs ns (distinct_right (names hub e) (cells_names hub cs ns) d) i h) (has_name k (names hub e)) refl
  where
    by_test : cell_at k cs ≡ Some c → (b : Bool) → has_name k (names hub e) ≡ b → cond b (Some e) (cell_at k cs) ≡ Some c
    by_test later true q = absurd (apart k (names hub e) (cells_names hub cs ns) d q (among k c cs ns i h))
    by_test later false q = later

-- ---- objects inside

abbrev pub HasInner : Name → Level → Inners → Type 0
HasInner k l no_inner = ⊥
HasInner k l (inner a b r m is) = ((k ≡ b) × (l ≡ m)) ⊎ HasInner k l is

named_among : (k : Name) (l : Level) (is : Inners) → HasInner k l is → has_name k (inner_names hub is) ≡ true
named_among k l no_inner i = absurd i
named_among k l (inner a b r m is) (inl q) =
    or_first (bytes_eq k b) (has_name k (inner_names hub is)) (subst (λ (n : Name). bytes_eq k n ≡ true) q.0 (same_name k))
named_among k l (inner a b r m is) (inr i) = or_second (bytes_eq k b) (has_name k (inner_names hub is)) (named_among k l is i)

pub level_found : (k : Name) (l : Level) (is : Inners) → AreDistinct (inner_names hub is) → HasInner k l is → level_at k is ≡ Some l
level_found k l no_inner d i = absurd i
level_found k l (inner a b r m is) d (inl q) =
    ap (λ (t : Bool). cond t (Some m) (level_at k is)) (subst (λ (n : Name). bytes_eq k n ≡ true) q.0 (same_name k)) ∙ ap Some (sym q.1)
level_found k l (inner a b r m is) d (inr i) = by_test (level_found k l is d.1 i) (bytes_eq k b) refl
  where
    by_test : level_at k is ≡ Some l → (t : Bool) → bytes_eq k b ≡ t → cond t (Some m) (level_at k is) ≡ Some l
    by_test later true q = absurd (fresh_not b (inner_names hub is) d.0 (subst (λ (n : Name). has_name n (inner_names hub is) ≡ true) (one_name k b q) (named_among k l is i)))
    by_test later false q = later
