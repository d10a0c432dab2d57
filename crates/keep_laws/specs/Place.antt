-- Objects at a place of a definition: at a spoke, counted from 0, or with no place at the hub.
use Rattle.std.specs.Prelude.{◌≡◌, ◌<◌, ℕ, length, Option, None, Some, slice_get}
use Rattle.kube_meta.specs.View.{ObjectView}
use Rattle.hub_cells.specs.Side.{spoke}
use Rattle.keep_laws.specs.FittedBody.{IsBodyOf}
use Rattle.keep_laws.specs.Spokes.{Spoke, Spokes, api_version}
use Rattle.keep_laws.specs.WholeHub.{IsHubBody}
use Rattle.keep_laws.specs.Settling.{SettlesAtHub, SettlesAtSpoke}

-- the object is one of that version, and its body is valid, filled and at most 64 deep
abbrev pub StandsAt : Spokes → Option ℕ → ObjectView → Type 0
StandsAt all None x = (x.api_version ≡ api_version all.group all.hub) × IsHubBody all.items x.body
StandsAt all (Some v) x =
    (v < length all.items) × ((s : Spoke) → slice_get all.items v ≡ Some s → (x.api_version ≡ api_version all.group s.name) × IsBodyOf spoke s.fit x.body)

abbrev pub Settles : Spokes → Option ℕ → ObjectView → ObjectView → Type 0
Settles all None x y = SettlesAtHub all x y
Settles all (Some v) x y = (s : Spoke) → slice_get all.items v ≡ Some s → SettlesAtSpoke all s x y
