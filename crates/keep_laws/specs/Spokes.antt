-- The versions of a definition: one is the hub, and each other, a spoke, has its rules, fitted to its schema and the hub's.
use Rattle.std.specs.Prelude.{◌≡◌, ◌++◌, ℕ, List, [], ◌∷◌, map, Option, Some}
use Rattle.struct_schema.specs.Shape.{Shape}
use Rattle.hub_cells.specs.Level.{Name, AreDistinct, Level}
use Rattle.hub_cells.specs.Fit.{Fit, IsFitted}
use Rattle.hub_fills.specs.Fills.{Fills, fills_of}
use Rattle.hub_fills.specs.Late.{NoLate}
use Rattle.hub_fills.specs.Right.{AllowDefaults}
use Rattle.keep_laws.specs.FittedBody.{HasRoom}

pub record Spoke : Type 0 where
  pub name : Name
  pub fit : Fit

-- the group, the hub's name, and the spokes in the definition's order
pub record Spokes : Type 0 where
  pub group : Name
  pub hub : Name
  pub items : List Spoke

-- `/`
abbrev pub slash : ℕ
slash = 47

-- GROUP/VERSION
abbrev pub api_version : Name → Name → Name
api_version group version = group ++ slash ∷ version

abbrev pub spoke_names : List Spoke → List Name
spoke_names ss = map (λ s. s.name) ss

-- each is fitted from the root on, to this schema of the hub
abbrev pub AreFittedTo : Shape → List Spoke → Type 0
AreFittedTo hub [] = Unit {0}
AreFittedTo hub (s ∷ ss) = (s.fit.hub ≡ hub) × (s.fit.depth ≡ 0) × HasRoom s.fit × IsFitted s.fit × AreFittedTo hub ss

abbrev pub HaveOneHub : List Spoke → Type 0
HaveOneHub [] = Unit {0}
HaveOneHub (s ∷ ss) = AreFittedTo s.fit.hub (s ∷ ss)

-- the first, if there is one, is fitted to this schema of the hub
abbrev pub ShareHub : Shape → List Spoke → Type 0
ShareHub hub [] = Unit {0}
ShareHub hub (s ∷ ss) = s.fit.hub ≡ hub

-- the levels of all spokes at the root
abbrev pub levels_of : List Spoke → List (Option Level)
levels_of ss = map (λ s. Some s.fit.level) ss

-- each default is a value that its side allows, and none comes too late for some spoke; `ms` are the levels of all spokes
abbrev pub HaveDefaults : List (Option Level) → List Spoke → Type 0
HaveDefaults ms [] = Unit {0}
HaveDefaults ms (s ∷ ss) = AllowDefaults s.fit.level × NoLate ms s.fit.level × HaveDefaults ms ss

-- all names differ, all spokes are fitted to one schema of the hub, and a name of the hub's that isn't there can take a
-- default of any version
pub record IsDefinition (all : Spokes) : Type 0 where
  pub names : AreDistinct (all.hub ∷ spoke_names all.items)
  pub one_hub : HaveOneHub all.items
  pub defaults : HaveDefaults (levels_of all.items) all.items

-- what the hub's names become where they aren't there, along the level of a spoke: the hub's default, or else the value that
-- matches the default of the first spoke that has one
abbrev pub fills_at : Spokes → Spoke → Fills
fills_at all s = fills_of (levels_of all.items) s.fit.level
