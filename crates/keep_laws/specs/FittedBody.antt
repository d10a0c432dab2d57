-- Bodies of one side of two schemas that a level of cells stands for, and the room that they have.
use Rattle.std.specs.Prelude.{◌≡◌, ◌≤◌, ℕ, ◌+◌, true}
use Rattle.kj_value.specs.Json.{object, members_of, depth}
use Rattle.kj_value.specs.Fields.{Pairs}
use Rattle.struct_schema.specs.Shape.{Shape}
use Rattle.struct_schema.specs.Valid.{valid}
use Rattle.struct_schema.specs.Filled.{Filled}
use Rattle.hub_cells.specs.declared.allowed.TheConstants.{STORED_LEVELS}
use Rattle.hub_cells.specs.Side.{Side}
use Rattle.hub_cells.specs.LevelDepth.{level_depth}
use Rattle.hub_cells.specs.Fit.{Fit, shape_on}
use Rattle.kept_entries.specs.Entry.{are_in_order}
use Rattle.keep_laws.specs.Whole.{Held}
use Rattle.keep_laws.specs.Words.{Parts, AllAlive}

-- an object of the schema, to which n names of objects lead: it is valid, it is its own filling, and with those names it
-- is at most 64 deep
pub record IsBody (n : ℕ) (s : Shape) (x : Pairs) : Type 0 where
  pub valid : valid s (object (members_of x)) ≡ true
  pub filled : Filled s (object (members_of x)) (object (members_of x))
  pub levels : n + depth (object (members_of x)) ≤ STORED_LEVELS

-- a valid and filled object of the side
abbrev pub IsBodyOf : Side → Fit → Pairs → Type 0
IsBodyOf d f x = IsBody f.depth (shape_on d f) x

-- an empty object is at most 64 deep wherever the level has one inside
abbrev pub HasRoom : Fit → Type 0
HasRoom f = f.depth + level_depth f.level ≤ STORED_LEVELS

-- a body of the side, and entries beside it that are in order and all alive, the names of each part rising
pub record IsWholeObject (d : Side) (f : Fit) (x : Held) : Type 0 where
  pub body : IsBodyOf d f x.fields
  pub parts : Parts x.entries
  pub order : are_in_order x.entries ≡ true
  pub alive : AllAlive d f.level x.fields x.entries
