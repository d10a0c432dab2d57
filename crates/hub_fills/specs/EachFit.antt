-- Of all fits, that each default is a value that its side allows.
use Rattle.std.specs.Prelude.{List, [], ◌∷◌}
use Rattle.hub_cells.specs.Fit.{Fit}
use Rattle.hub_fills.specs.Right.{AllowDefaults}

abbrev pub EachAllows : List Fit → Type 0
EachAllows [] = Unit {0}
EachAllows (f ∷ fs) = AllowDefaults f.level × EachAllows fs
