-- For private clauses: that rules mean each fit.
use Rattle.std.specs.Prelude.{List, [], ◌∷◌}
use Rattle.hub_cells.specs.Fit.{Fit}
use Rattle.crd_loading.specs.Fits.{IsRuled}

abbrev pub AllFitted : List Fit → Type 0
AllFitted [] = Unit {0}
AllFitted (f ∷ fs) = IsRuled f × AllFitted fs
