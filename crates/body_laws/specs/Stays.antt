-- What stays where a client didn't touch it. A body x of the side went over as y; a client made z of y; and z came back as w.
use Rattle.std.specs.Prelude.{◌≡◌, List, [], ◌∷◌, ◌++◌, false, Option, Some, None}
use Rattle.kj_value.specs.Json.{Json}
use Rattle.kj_value.specs.Fields.{Pairs, field}
use Rattle.kj_value.specs.Kinds.{as_object}
use Rattle.hub_cells.specs.Side.{Side, other}
use Rattle.hub_cells.specs.Level.{Name, named, tuple_of}
use Rattle.hub_cells.specs.Fit.{has_name}
use Rattle.body_laws.specs.Cell.{Cell}
use Rattle.body_laws.specs.Frame.{Level, level, Inners, no_inner, inner, cells_names, inner_names}

-- where the client left a cell's values, those of the side stay
abbrev pub CellsStay : Side → List Cell → Pairs → Pairs → Pairs → Pairs → Type 0
CellsStay d [] x y z w = Unit {0}
CellsStay d (c ∷ cs) x y z w =
    (tuple_of (c.names (other d)) z ≡ tuple_of (c.names (other d)) y → tuple_of (c.names d) w ≡ tuple_of (c.names d) x) × CellsStay d cs x y z w

-- the side's own fields stay
abbrev pub OwnStays : List Name → Pairs → Pairs → Type 0
OwnStays ns x w = (k : Name) → has_name k ns ≡ false → field k w ≡ field k x

abbrev pub object_in : Option Json → Option Pairs
object_in None = None
object_in (Some j) = as_object j

-- where the client left an object, whatever is in it, x and w have one, and inside it stays what wasn't touched
abbrev pub InsideBoth : (Pairs → Pairs → Pairs → Pairs → Type 0) → Option Pairs → Pairs → Pairs → Option Pairs → Type 0
InsideBoth R (Some x) y z (Some w) = R x y z w
InsideBoth R (Some x) y z None = ⊥
InsideBoth R None y z w = ⊥

abbrev pub Inside : (Pairs → Pairs → Pairs → Pairs → Type 0) → Option Pairs → Option Pairs → Option Pairs → Option Pairs → Type 0
Inside R x (Some y) (Some z) w = InsideBoth R x y z w
Inside R x None z w = Unit {0}
Inside R x (Some y) None w = Unit {0}

abbrev mutual
  pub Stays : Side → Level → Pairs → Pairs → Pairs → Pairs → Type 0
  Stays d (level cs is) x y z w =
      CellsStay d cs x y z w × OwnStays (cells_names d cs ++ inner_names d is) x w × InnersStay d is x y z w

  pub InnersStay : Side → Inners → Pairs → Pairs → Pairs → Pairs → Type 0
  InnersStay d no_inner x y z w = Unit {0}
  InnersStay d (inner a b l is) x y z w =
      Inside (Stays d l) (object_in (field (named d a b) x)) (object_in (field (named (other d) a b) y)) (object_in (field (named (other d) a b) z)) (object_in (field (named d a b) w)) × InnersStay d is x y z w
