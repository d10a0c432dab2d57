-- A body whose names rise, at the root and in each object inside that its level reaches, as in every object of the program.
use Rattle.std.specs.Prelude.{◌≡◌, [], ◌∷◌, Option, Some, None}
use Rattle.std.specs.Ordering.{nat_cmp}
use Rattle.std.specs.declared.cmp.Ordering.TheVariants.{Less}
use Rattle.std.specs.Cmp.Lexicographic.{slice_cmp}
use Rattle.kj_value.specs.Json.{Json, null, boolean, whole, text, list, object}
use Rattle.kj_value.specs.Fields.{Pairs, field}
use Rattle.kj_value.specs.Kinds.{pairs_of}
use Rattle.hub_cells.specs.Side.{Side}
use Rattle.hub_cells.specs.Level.{Name, named}
use Rattle.body_laws.specs.Frame.{Level, level, Inners, no_inner, inner}

abbrev pub IsBelow : Name → Pairs → Type 0
IsBelow k [] = Unit {0}
IsBelow k (p ∷ ps) = (slice_cmp nat_cmp k p.0 ≡ Less) × IsBelow k ps

abbrev pub IsRising : Pairs → Type 0
IsRising [] = Unit {0}
IsRising (p ∷ ps) = IsBelow p.0 ps × IsRising ps

abbrev pub IfObject : (Pairs → Type 0) → Json → Type 0
IfObject P null = Unit {0}
IfObject P (boolean b) = Unit {0}
IfObject P (whole z) = Unit {0}
IfObject P (text t) = Unit {0}
IfObject P (list js) = Unit {0}
IfObject P (object ms) = P (pairs_of ms)

-- what is so of an object that stands there
abbrev pub WhereObject : (Pairs → Type 0) → Option Json → Type 0
WhereObject P None = Unit {0}
WhereObject P (Some j) = IfObject P j

abbrev mutual
  pub IsBody : Side → Level → Pairs → Type 0
  IsBody d (level cs is) x = IsRising x × InnersBody d is x

  pub InnersBody : Side → Inners → Pairs → Type 0
  InnersBody d no_inner x = Unit {0}
  InnersBody d (inner a b l is) x = WhereObject (IsBody d l) (field (named d a b) x) × InnersBody d is x
