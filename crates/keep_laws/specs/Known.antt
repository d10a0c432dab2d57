-- A body all of whose names are the level's, at every level: what a filled body is where no level preserves unknown names.
use Rattle.std.specs.Prelude.{◌≡◌, [], ◌∷◌, true, Option, Some, None}
use Rattle.std.specs.Ordering.{nat_cmp}
use Rattle.std.specs.declared.cmp.Ordering.TheVariants.{Less}
use Rattle.std.specs.Cmp.Lexicographic.{slice_cmp}
use Rattle.kj_value.specs.Json.{Json, null, boolean, whole, text, list, object}
use Rattle.kj_value.specs.Fields.{Pairs, field}
use Rattle.hub_cells.specs.Side.{Side}
use Rattle.hub_cells.specs.Level.{Name}
use Rattle.keep_laws.specs.Entry.{all_named}
use Rattle.hub_cells.specs.Level.{Level, level, Inners, no_inner, inner, named, cells_names, inner_names}
use Rattle.keep_laws.specs.Body.{pairs_of}

abbrev pub IsBelow : Name → Pairs → Type 0
IsBelow k [] = Unit {0}
IsBelow k (p ∷ ps) = (slice_cmp nat_cmp k p.0 ≡ Less) × IsBelow k ps

abbrev pub IsRising : Pairs → Type 0
IsRising [] = Unit {0}
IsRising (p ∷ ps) = IsBelow p.0 ps × IsRising ps

abbrev pub IsObject : (Pairs → Type 0) → Json → Type 0
IsObject P (object ms) = P (pairs_of ms)
IsObject P null = ⊥
IsObject P (boolean b) = ⊥
IsObject P (whole z) = ⊥
IsObject P (text s) = ⊥
IsObject P (list js) = ⊥

abbrev pub IfPresent : (Pairs → Type 0) → Option Json → Type 0
IfPresent P None = Unit {0}
IfPresent P (Some j) = IsObject P j

abbrev mutual
  pub IsKnown : Side → Level → Pairs → Type 0
  IsKnown d (level cs is) x = IsRising x × (all_named (cells_names d cs (inner_names d is)) x ≡ true) × InnersKnown d is x

  pub InnersKnown : Side → Inners → Pairs → Type 0
  InnersKnown d no_inner x = Unit {0}
  InnersKnown d (inner a b rq l is) x = IfPresent (IsKnown d l) (field (named d a b) x) × InnersKnown d is x
