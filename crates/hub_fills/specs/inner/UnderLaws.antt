-- The levels under a path, one name further on.
use Rattle.std.proofs.Common.{◌≡◌, List, [], ◌∷◌, ◌++◌, map, Option, Some, None, refl, ap₂}
use Rattle.hub_cells.specs.Level.{Name, Level}
use Rattle.hub_cells.specs.Fit.{Fit}
use Rattle.hub_fills.specs.Lookups.{level_in, level_under}

pub none_under : (ks : List Name) → level_under ks None ≡ None
none_under [] = refl
none_under (k ∷ ks) = none_under ks

pub under_last : (ks : List Name) (k : Name) (m : Option Level) → level_under (ks ++ k ∷ []) m ≡ level_in k (level_under ks m)
under_last [] k m = refl
under_last (n ∷ ks) k m = under_last ks k (level_in n m)

-- the levels of these fits under a path
abbrev pub levels_under : List Name → List Fit → List (Option Level)
levels_under ks fs = map (λ f. level_under ks (Some f.level)) fs

pub levels_last : (ks : List Name) (k : Name) (fs : List Fit) → levels_under (ks ++ k ∷ []) fs ≡ map (level_in k) (levels_under ks fs)
levels_last ks k [] = refl
levels_last ks k (f ∷ fs) =
    ap₂ (λ (m : Option Level) (ms : List (Option Level)). m ∷ ms) (under_last ks k (Some f.level)) (levels_last ks k fs)
