-- Which hub value a request is admitted with.
use Rattle.std.specs.Prelude.{◌≡◌, ◌≤◌, ◌<◌, ℕ, Option, None, Some}
use Rattle.kj_value.specs.Json.{object, members_of}
use Rattle.kj_value.specs.Fields.{Pairs}
use Rattle.kj_value.specs.Sound.{AreRising}
use Rattle.kube_meta.specs.View.{ObjectView}
use Rattle.struct_schema.specs.Shape.{Shape}
use Rattle.struct_schema.specs.Filled.{Filled}
use Rattle.struct_schema.specs.Fault.{fault}
use Rattle.api_calls.specs.Meaning.{Request, measure}
use Rattle.hub_cells.specs.Level.{Name}
use Rattle.keep_laws.specs.Spokes.{Spokes}
use Rattle.keep_laws.specs.Settling.{SettlesAtHub, SettlesAtSpoke}
use Rattle.keep_laws.specs.Over.{IsFirstBad}
use Rattle.crd_meaning.specs.declared.limits.TheConstants.{MAX_MEASURE}
use Rattle.crd_meaning.specs.Definition.{Definition, Seat, at_hub, at_spoke, nowhere, seat, count_of, version_at}
use Rattle.crd_meaning.specs.Objects.{IsWholeValue, IsFormAt}
use Rattle.crd_meaning.specs.Request.{IsTaken}

-- the schema of the request's version
abbrev pub schema_of : Definition → Request → Shape
schema_of d r = (version_at d r.version).schema

-- ---- filled, and then checked

-- the body k is what x becomes by pruning and defaulting
pub record IsFilling (s : Shape) (x k : Pairs) : Type 0 where
  pub filled : Filled s (object (members_of x)) (object (members_of k))
  pub sound : AreRising (members_of k)

-- the request's object with its body filled, which breaks no rule of the schema
pub record Passes (d : Definition) (r : Request) (x : ObjectView) (e : Option ℕ) : Type 0 where
  pub taken : ObjectView
  pub is : IsTaken d r taken e
  pub filling : IsFilling (schema_of d r) taken.body x.body
  pub rest : x ≡ record taken { body = x.body }
  pub valid : fault (schema_of d r) (object (members_of x.body)) ≡ None

-- ---- reserved annotations

-- the name of a spoke is the one of its own annotation on the hub's objects
abbrev pub own_name : Seat → Option Name
own_name at_hub = None
own_name (at_spoke s) = Some s.name
own_name nowhere = None

-- k is the key of the first one that can't be read
abbrev pub IsUnread : Definition → Request → ObjectView → Name → Type 0
IsUnread d r x k = IsFirstBad d.spokes (own_name (seat d r.version)) x.meta.annotations k

-- ---- the hub value

-- y is x without what has no place there: its own side's annotation, those of no known spoke, and dead entries; and with each
-- name that wasn't there and has a default in some version
abbrev pub LeftAt : Spokes → Seat → ObjectView → ObjectView → Type 0
LeftAt all at_hub x y = SettlesAtHub all x y
LeftAt all (at_spoke s) x y = SettlesAtSpoke all s x y
LeftAt all nowhere x y = ⊥

-- h is whole, and one with what is left of x at the version
pub record IsHubOf (d : Definition) (v : ℕ) (x h : ObjectView) : Type 0 where
  pub left : ObjectView
  pub settles : LeftAt d.spokes (seat d v) x left
  pub whole : IsWholeValue d h
  pub pairs : IsFormAt d v h left

-- the measure isn't above the limit at any version
abbrev pub IsLight : Definition → ObjectView → Type 0
IsLight d h = (v : ℕ) (x : ObjectView) → v < count_of d → IsFormAt d v h x → measure x ≤ MAX_MEASURE

-- ---- every step is passed

pub record Admits (d : Definition) (r : Request) (h : ObjectView) (e : Option ℕ) : Type 0 where
  pub object : ObjectView
  pub passes : Passes d r object e
  pub read : (k : Name) → IsUnread d r object k → ⊥
  pub hub : IsHubOf d r.version object h
  pub light : IsLight d h
