-- The object without its dead entries.
use Rattle.std.specs.Prelude.{◌≡◌, List, [], ◌∷◌, Bool, true, false, ◌&&◌, cond, Option, Some, None, is_none}
use Rattle.kj_value.specs.Json.{Json}
use Rattle.kj_value.specs.Same.{json_same}
use Rattle.struct_schema.specs.Shape.{own}
use Rattle.hub_cells.specs.Side.{Side, other}
use Rattle.hub_cells.specs.Cell.{Tuple}
use Rattle.hub_cells.specs.Cross.{matched, shown}
use Rattle.hub_cells.specs.Level.{allows, Place, Cell, places, Level, level, Inners, no_inner, inner}
use Rattle.keep_laws.specs.Marked.{Marks, Marked, MarkedInners, IfThere, OrAbsent, there, crossed}
use Rattle.keep_laws.specs.Whole.{Held, marks_of, object_of}

abbrev pub value_same : Option Json → Option Json → Bool
value_same None None = true
value_same (Some i) (Some j) = json_same i j
value_same None (Some j) = false
value_same (Some i) None = false

abbrev pub tuple_same : Tuple → Tuple → Bool
tuple_same [] [] = true
tuple_same (o ∷ os) (p ∷ ps) = value_same o p && tuple_same os ps
tuple_same [] (p ∷ ps) = false
tuple_same (o ∷ os) [] = false

abbrev pub is_unmatched : Option Tuple → Bool
is_unmatched None = true
is_unmatched (Some t) = false

-- u is kept beside t
abbrev pub alive : Side → Cell → Tuple → Tuple → Bool
alive d c t u =
    allows (other d) c u && is_unmatched (matched (other d) c.kind u) && tuple_same t (shown (other d) c.kind u)

abbrev pub living : Side → Cell → Tuple → Option Tuple → Option Tuple
living d c t None = None
living d c t (Some u) = cond (alive d c t u) (Some u) None

abbrev pub living_marks : Side → (cs : List Cell) → Marks cs → Marks cs
living_marks d [] ms = tt
living_marks d (c ∷ cs) ms = ((ms.0.0, living d c ms.0.0 ms.0.1), living_marks d cs ms.1)

abbrev mutual
  pub settled_marks : Side → (l : Level) → Marked l → Marked l
  settled_marks d (level cs is) m = (living_marks d cs m.0, settled_inners d is m.1)

  pub settled_inners : Side → (is : Inners) → MarkedInners is → MarkedInners is
  settled_inners d no_inner ms = tt
  settled_inners d (inner a b rq l is) ms = (there (settled_marks d l) ms.0, settled_inners d is ms.1)

-- ---- a body that the schema allows, whatever the entries are

abbrev pub CellsAllowed : Side → (cs : List Cell) → Marks cs → Type 0
CellsAllowed d [] ms = Unit {0}
CellsAllowed d (c ∷ cs) ms = (allows d c ms.0.0 ≡ true) × CellsAllowed d cs ms.1

abbrev mutual
  pub IsAllowed : Side → (l : Level) → Marked l → Type 0
  IsAllowed d (level cs is) m = CellsAllowed d cs m.0 × InnersAllowed d is m.1

  pub InnersAllowed : Side → (is : Inners) → MarkedInners is → Type 0
  InnersAllowed d no_inner ms = Unit {0}
  InnersAllowed d (inner a b rq l is) ms = OrAbsent rq (IsAllowed d l) ms.0 × InnersAllowed d is ms.1

-- ---- a body in which each name that has a default is there

abbrev pub set_at : Place → Option Json → Bool
set_at p None = is_none (own p.shape).default_value
set_at p (Some j) = true

abbrev pub all_set : List Place → Tuple → Bool
all_set [] os = true
all_set (p ∷ ps) [] = true
all_set (p ∷ ps) (o ∷ os) = set_at p o && all_set ps os

abbrev pub CellsSet : Side → (cs : List Cell) → Marks cs → Type 0
CellsSet d [] ms = Unit {0}
CellsSet d (c ∷ cs) ms = (all_set (places d c) ms.0.0 ≡ true) × CellsSet d cs ms.1

abbrev mutual
  pub AreSet : Side → (l : Level) → Marked l → Type 0
  AreSet d (level cs is) m = CellsSet d cs m.0 × InnersSet d is m.1

  pub InnersSet : Side → (is : Inners) → MarkedInners is → Type 0
  InnersSet d no_inner ms = Unit {0}
  InnersSet d (inner a b rq l is) ms = IfThere (AreSet d l) ms.0 × InnersSet d is ms.1

abbrev pub settled : Side → (l : Level) → Held → Held
settled d l x = object_of d l (settled_marks d l (marks_of d l x))

-- what the two conversions give
abbrev pub converted : Side → (l : Level) → Held → Held
converted d l x = object_of (other d) l (crossed d l (settled_marks d l (marks_of d l x)))
