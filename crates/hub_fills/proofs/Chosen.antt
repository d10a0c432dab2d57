-- What crossing answers for a default, and what is so of all cells of a level is so of the one that is found.
use Rattle.std.proofs.Common.{◌≡◌, ℕ, List, [], ◌∷◌, Bool, true, false, ◌&&◌, cond, IfSome, Option, Some, None, refl, ap, sym, subst, ◌∙◌}
use Rattle.std.proofs.lemmas.Bool.{false≢true}
use Rattle.std.specs.Str.{bytes_eq}
use Rattle.kj_value.specs.Json.{Json}
use Rattle.hub_cells.specs.Side.{Side, hub}
use Rattle.hub_cells.specs.Cell.{Tuple, one}
use Rattle.struct_schema.specs.Shape.{own}
use Rattle.hub_cells.specs.Answer.{answer_by}
use Rattle.hub_cells.specs.Level.{Name, Place, Cell, allowed_at, all_allowed, names, places, CellFits, CellsFit, Fits, Level, level, cells_in, Inners, no_inner, inner}
use Rattle.hub_cells.specs.Fit.{Fit, has_name}
use Rattle.struct_schema.specs.Fault.{or_else}
use Rattle.hub_fills.specs.Fills.{one_value, value_in, default_of, first_default, fill_of}
use Rattle.hub_fills.specs.Lookups.{cell_at, level_at, level_in, level_under}
use Rattle.hub_fills.specs.Right.{DefaultsAllowed, CellsAllow, AllowDefaults, AllowWithin}
use Rattle.hub_fills.specs.Sound.{IfThere}
use Rattle.hub_fills.specs.EachFit.{EachAllows}

-- ---- an answer

pub answered : (o : Option Tuple) (t s : Tuple) (m : Bool) → (s, m) ≡ answer_by o t → m ≡ true → one_value s ≡ value_in o
answered None t s m e h = absurd (false≢true (sym (ap (λ (p : Tuple × Bool). p.1) e) ∙ h))
answered (Some u) t s m e h = ap (λ (p : Tuple × Bool). one_value p.0) e

pub not_answered : (o : Option Tuple) (t s : Tuple) (m : Bool) → (s, m) ≡ answer_by o t → m ≡ false → None ≡ value_in o
not_answered None t s m e h = refl
not_answered (Some u) t s m e h = absurd (false≢true (sym h ∙ ap (λ (p : Tuple × Bool). p.1) e))

-- the default of the only name can cross
pub one_allowed : (n : ℕ) (p : Place) (j : Json) → DefaultsAllowed n (p ∷ []) → (own p.shape).default_value ≡ Some j → all_allowed n (p ∷ []) (one j) ≡ true
one_allowed n p j h e =
    ap (λ (b : Bool). b && true) (subst (λ (o : Option Json). IfSome o (λ i. allowed_at n p (Some i) ≡ true)) e h.0)

-- ---- the cell that is found

pub cell_allows : (k : Name) (cs : List Cell) (c : Cell) → CellsAllow cs → cell_at k cs ≡ Some c → (d : Side) → DefaultsAllowed c.depth (places d c)
cell_allows k [] c a e = absurd (cc)
cell_allows k (b ∷ cs) c a e = by_test (has_name k (names hub b)) e (cell_allows k cs c a.1)
  where
    by_test : (w : Bool) → cond w (Some b) (cell_at k cs) ≡ Some c → (cell_at k cs ≡ Some c → (d : Side) → DefaultsAllowed c.depth (places d c)) → (d : Side) → DefaultsAllowed c.depth (places d c)
    by_test true q later =
        let same : b ≡ c = cc in
        subst (λ (u : Cell). (d : Side) → DefaultsAllowed u.depth (places d u)) same a.0
    by_test false q later = later q

pub cell_fits : (k : Name) (cs : List Cell) (c : Cell) → CellsFit cs → cell_at k cs ≡ Some c → CellFits c
cell_fits k [] c a e = absurd (cc)
cell_fits k (b ∷ cs) c a e = by_test (has_name k (names hub b)) e (cell_fits k cs c a.1)
  where
    by_test : (w : Bool) → cond w (Some b) (cell_at k cs) ≡ Some c → (cell_at k cs ≡ Some c → CellFits c) → CellFits c
    by_test true q later =
        let same : b ≡ c = cc in
        subst CellFits same a.0
    by_test false q later = later q

-- ---- the level that is found

inner_allows : (k : Name) (is : Inners) → AllowWithin is → IfThere AllowDefaults (level_at k is)
inner_allows k no_inner a = tt
inner_allows k (inner x y r l is) a = by_test (bytes_eq k y) (inner_allows k is a.1)
  where
    by_test : (w : Bool) → IfThere AllowDefaults (level_at k is) → IfThere AllowDefaults (cond w (Some l) (level_at k is))
    by_test true later = a.0
    by_test false later = later

in_allows : (k : Name) (m : Option Level) → IfThere AllowDefaults m → IfThere AllowDefaults (level_in k m)
in_allows k None a = tt
in_allows k (Some (level cs is)) a = inner_allows k is a.1

pub under_allows : (ks : List Name) (m : Option Level) → IfThere AllowDefaults m → IfThere AllowDefaults (level_under ks m)
under_allows [] m a = a
under_allows (k ∷ ks) m a = under_allows ks (level_in k m) (in_allows k m a)

pub level_allows : (ks : List Name) (m : Level) (l : Level) → AllowDefaults m → Some l ≡ level_under ks (Some m) → AllowDefaults l
level_allows ks m l a e = subst (IfThere AllowDefaults) (sym e) (under_allows ks (Some m) a)

pub cells_allow : (l : Level) (cs : List Cell) → cs ≡ cells_in l → AllowDefaults l → CellsAllow cs
cells_allow (level ds is) cs e a = subst CellsAllow (sym e) a.0

pub first_allows : (fs rest : List Fit) (f : Fit) → fs ≡ f ∷ rest → EachAllows fs → AllowDefaults f.level × EachAllows rest
first_allows fs rest f e a = subst EachAllows e a

-- ---- of the cell that is found in a level

cells_fit : (l : Level) → Fits l → CellsFit (cells_in l)
cells_fit (level cs is) f = f.0

pub found_fits : (l : Level) (cs : List Cell) (k : Name) (c : Cell) → cs ≡ cells_in l → Fits l → Some c ≡ cell_at k cs → CellFits c
found_fits l cs k c e f at = cell_fits k cs c (subst CellsFit (sym e) (cells_fit l f)) (sym at)

pub found_allows : (l : Level) (cs : List Cell) (k : Name) (c : Cell) → cs ≡ cells_in l → AllowDefaults l → Some c ≡ cell_at k cs → (d : Side) → DefaultsAllowed c.depth (places d c)
found_allows l cs k c e a at = cell_allows k cs c (cells_allow l cs e a) (sym at)

-- ---- a cell that hasn't one name of the hub's

none_first : (ms : List (Option Level)) → first_default ms [] ≡ None
none_first [] = refl
none_first (m ∷ ms) = none_first ms

two_first : (ms : List (Option Level)) (q r : Place) (qs : List Place) → first_default ms (q ∷ r ∷ qs) ≡ None
two_first [] q r qs = refl
two_first (m ∷ ms) q r qs = two_first ms q r qs

pub fill_none : (ms : List (Option Level)) (c : Cell) → c.hub ≡ [] → None ≡ fill_of ms c
fill_none ms c e = subst (λ (qs : List Place). None ≡ or_else (default_of qs) (first_default ms qs)) (sym e) (sym (none_first ms))

pub fill_two : (ms : List (Option Level)) (c : Cell) (q r : Place) → c.hub ≡ q ∷ r ∷ [] → None ≡ fill_of ms c
fill_two ms c q r e = subst (λ (qs : List Place). None ≡ or_else (default_of qs) (first_default ms qs)) (sym e) (sym (two_first ms q r []))
