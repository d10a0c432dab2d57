-- The first late name, cell by cell and object by object.
use Rattle.std.proofs.Common.{◌≡◌, ℕ, List, [], ◌∷◌, ◌++◌, map, Bool, true, false, cond, codes, fold, Option, Some, refl}
use Rattle.struct_schema.specs.Fault.{lesser}
use Rattle.hub_cells.specs.Side.{hub}
use Rattle.hub_cells.specs.Level.{Name, Cell, names, Level, level, cells_in, Inners, inner, inners_in}
use Rattle.hub_fills.specs.Lookups.{level_in}
use Rattle.hub_fills.specs.Late.{is_late}
use Rattle.hub_fills.specs.LateNames.{joined, late_cells, late_in, late_within, late_among}

abbrev pub best : Option (List ℕ) → List (List Name) → Option (List ℕ)
best o ps = fold lesser o (map joined ps)

pub best_append : (o : Option (List ℕ)) (xs ys : List (List Name)) → best (best o xs) ys ≡ best o (xs ++ ys)
best_append o [] ys = refl
best_append o (x ∷ xs) ys = best_append (lesser o (joined x)) xs ys

pub joined_step : (k : Name) (ks : List Name) (n : Name) → k ++ codes "." ++ joined (ks ++ n ∷ []) ≡ joined (k ∷ ks ++ n ∷ [])
joined_step k [] n = refl
joined_step k (m ∷ ms) n = refl

pub cells_more : (ms : List (Option Level)) (path : List Name) (c : Cell) (cs : List Cell) (o : Option (List ℕ)) → best (best o (late_cells ms path (c ∷ []))) (late_cells ms path cs) ≡ best o (late_cells ms path (c ∷ cs))
cells_more ms path c cs o = by_test (is_late ms c)
  where
    by_test : (b : Bool) → best (best o (cond b ((path ++ names hub c) ∷ []) [])) (late_cells ms path cs) ≡ best o (cond b ((path ++ names hub c) ∷ late_cells ms path cs) (late_cells ms path cs))
    by_test true = refl
    by_test false = refl

pub level_both : (ms : List (Option Level)) (path : List Name) (l : Level) (o : Option (List ℕ)) → best (best o (late_cells ms path (cells_in l))) (late_within ms path (inners_in l)) ≡ best o (late_in ms path l)
level_both ms path (level cs is) o = best_append o (late_cells ms path cs) (late_within ms path is)

pub within_more : (ms : List (Option Level)) (path : List Name) (a b : Name) (r : Bool) (l : Level) (is : Inners) (o : Option (List ℕ)) → best (best o (late_in (map (level_in b) ms) (path ++ b ∷ []) l)) (late_within ms path is) ≡ best o (late_within ms path (inner a b r l is))
within_more ms path a b r l is o = best_append o (late_in (map (level_in b) ms) (path ++ b ∷ []) l) (late_within ms path is)

pub among_more : (ms : List (Option Level)) (l : Level) (os : List (Option Level)) (o : Option (List ℕ)) → best (best o (late_in ms [] l)) (late_among ms os) ≡ best o (late_among ms (Some l ∷ os))
among_more ms l os o = best_append o (late_in ms [] l) (late_among ms os)
