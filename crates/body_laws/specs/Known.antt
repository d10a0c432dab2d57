-- A body that has, at each level, only the names of the level: those that its version pairs with the other's.
use Rattle.std.specs.Prelude.{◌≡◌, List, ◌++◌, false, None}
use Rattle.kj_value.specs.Fields.{Pairs, field}
use Rattle.hub_cells.specs.Side.{Side}
use Rattle.hub_cells.specs.Level.{Name, named}
use Rattle.hub_cells.specs.Fit.{has_name}
use Rattle.body_laws.specs.Frame.{Level, level, Inners, no_inner, inner, cells_names, inner_names}
use Rattle.body_laws.specs.Body.{WhereObject}

abbrev pub HasOnly : List Name → Pairs → Type 0
HasOnly ns x = (k : Name) → has_name k ns ≡ false → field k x ≡ None

abbrev mutual
  pub IsKnown : Side → Level → Pairs → Type 0
  IsKnown d (level cs is) x = HasOnly (cells_names d cs ++ inner_names d is) x × InnersKnown d is x

  pub InnersKnown : Side → Inners → Pairs → Type 0
  InnersKnown d no_inner x = Unit {0}
  InnersKnown d (inner a b l is) x = WhereObject (IsKnown d l) (field (named d a b) x) × InnersKnown d is x
