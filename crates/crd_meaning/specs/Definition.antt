-- A definition as it was loaded: its versions, which of them is the hub, and the rules of the others.
use Rattle.std.specs.Prelude.{◌≡◌, ℕ, suc, ◌-◌, ◌<◌, ◌≤◌, ◌==◌, nat_lt, Bool, false, List, [], ◌∷◌, length, map, Option, Some, None, slice_get, slice_index_or, codes, if◌then◌else◌}
use Rattle.api_calls.specs.declared.flags.Flags.{Flags}
use Rattle.struct_schema.specs.Shape.{Shape, shape, plain, properties, no_map, no_shape}
use Rattle.struct_schema.specs.Names.{property}
use Rattle.struct_schema.specs.OwnDefaults.{HasOwnDefaults}
use Rattle.prune_default.specs.SoundDefaults.{HasSoundDefaults}
use Rattle.struct_schema.specs.declared.kind.NodeKind.TheVariants.{Object}
use Rattle.crd_reading.specs.View.{VersionView, DefinitionView}
use Rattle.keep_laws.specs.Spokes.{Spoke, Spokes, IsDefinition}
use Rattle.crd_meaning.specs.Tables.{HasSoundTables}

-- the hub's place among the versions, and the spokes, which are the other versions in their order
pub record Definition : Type 0 where
  pub view : DefinitionView
  pub hub : ℕ
  pub spokes : Spokes

abbrev pub count_of : Definition → ℕ
count_of d = length d.view.versions

abbrev pub no_version : VersionView
no_version = record { name = []; served = false; storage = false; schema = shape (plain Object) no_map no_shape no_shape }

abbrev pub version_at : Definition → ℕ → VersionView
version_at d v = slice_index_or d.view.versions v no_version

-- ---- the side on which the objects of a version stand

pub data Seat : Type 0 where
  at_hub : Seat
  at_spoke : Spoke → Seat
  nowhere : Seat

abbrev pub spoke_seat : Option Spoke → Seat
spoke_seat None = nowhere
spoke_seat (Some s) = at_spoke s

-- a version's place among the spokes
abbrev pub spoke_place : ℕ → ℕ → ℕ
spoke_place hub v = if nat_lt v hub then v else v - 1

abbrev pub seat : Definition → ℕ → Seat
seat d v = if v == d.hub then at_hub else spoke_seat (slice_get d.spokes.items (spoke_place d.hub v))

-- ---- which versions are served at first, and which one is stored

-- how many versions stand before the first one with the flag
abbrev pub before_storage : List VersionView → ℕ
before_storage [] = 0
before_storage (v ∷ vs) = if v.storage then 0 else suc (before_storage vs)

abbrev pub served_at : Definition → ℕ → Bool
served_at d v = (version_at d v).served

abbrev pub opening_of : Definition → Flags
opening_of d = record {
  served = map (served_at d) (0 ∷ 1 ∷ 2 ∷ 3 ∷ 4 ∷ 5 ∷ 6 ∷ 7 ∷ []);
  storage = before_storage d.view.versions;
}

-- ---- what loading has made sure of

-- the schema of a version leaves the three names to the object's own values, and each default is a JSON value and its own
-- filling
pub record IsRoot (s : Shape) : Type 0 where
  pub api_version : property (codes "apiVersion") (properties s) ≡ no_shape
  pub kind : property (codes "kind") (properties s) ≡ no_shape
  pub metadata : property (codes "metadata") (properties s) ≡ no_shape
  pub defaults : HasOwnDefaults s
  pub sound : HasSoundDefaults s

-- the spoke has the version's name, and its rules are fitted to the version's schema
pub record IsSpokeOf (v : VersionView) (s : Spoke) : Type 0 where
  pub name : s.name ≡ v.name
  pub schema : s.fit.spoke ≡ v.schema

abbrev pub IsSeated : VersionView → Seat → Type 0
IsSeated v at_hub = Unit {0}
IsSeated v (at_spoke s) = IsSpokeOf v s
IsSeated v nowhere = ⊥

pub record IsLoaded (d : Definition) : Type 0 where
  pub few : (2 ≤ count_of d) × (count_of d ≤ 8)
  pub hub : d.hub < count_of d
  pub group : d.spokes.group ≡ d.view.group
  pub hub_name : d.spokes.hub ≡ (version_at d d.hub).name
  pub roots : (v : ℕ) → v < count_of d → IsRoot (version_at d v).schema
  -- each version but the hub is a spoke, and there are no other spokes
  pub spokes : suc (length d.spokes.items) ≡ count_of d
  pub seats : (v : ℕ) → v < count_of d → IsSeated (version_at d v) (seat d v)
  pub to_hub : (p : ℕ) (s : Spoke) → slice_get d.spokes.items p ≡ Some s → s.fit.hub ≡ (version_at d d.hub).schema
  pub tables : (p : ℕ) (s : Spoke) → slice_get d.spokes.items p ≡ Some s → HasSoundTables s.fit.level
  pub definition : IsDefinition d.spokes
