-- Which objects are whole at the hub, and which object of each version is one with them.
use Rattle.std.specs.Prelude.{◌≡◌, ◌≤◌, ℕ, ◌+◌, None}
use Rattle.kj_value.specs.Json.{list, items_of, depth}
use Rattle.kj_value.specs.Sound.{AreSoundItems}
use Rattle.kj_value.specs.Fields.{AreInOrder}
use Rattle.kube_meta.specs.View.{MetaView, ObjectView}
use Rattle.object_reading.specs.Keeping.{KeepsRules}
use Rattle.api_calls.specs.Versions.{AreStamps}
use Rattle.api_calls.specs.declared.versions.TheConstants.{OBJECT_LEVELS}
use Rattle.keep_laws.specs.Spokes.{Spokes}
use Rattle.keep_laws.specs.Notes.{IsObject}
use Rattle.keep_laws.specs.Pair.{IsPairOf}
use Rattle.keep_laws.specs.WholeHub.{IsWholeHub}
use Rattle.crd_meaning.specs.Definition.{Definition, Seat, at_hub, at_spoke, nowhere, seat}

-- the names of the labels rise, the owners are JSON values, and with the two levels that lead to them they are at most 64
-- deep
pub record IsMeta (m : MetaView) : Type 0 where
  pub labels : AreInOrder m.labels
  pub owners : AreSoundItems (items_of m.owners)
  pub levels : 2 + depth (list (items_of m.owners)) ≤ OBJECT_LEVELS

-- a hub value: its body is valid and filled, each name that has a default in some version is there, each reserved annotation
-- keeps entries that are all alive, and the metadata keep their rules
pub record IsWholeValue (d : Definition) (h : ObjectView) : Type 0 where
  pub hub : IsWholeHub d.spokes h
  pub kind : h.kind ≡ d.view.kind
  pub rules : KeepsRules h.meta
  pub meta : IsMeta h.meta
  pub no_number : h.meta.resource_version ≡ None
  pub no_uid : h.meta.uid ≡ None
  pub stamps : AreStamps h.meta.created h.meta.deleted h.meta.generation

-- x stands there, and is one with h of the hub
abbrev pub PairsAt : Spokes → Seat → ObjectView → ObjectView → Type 0
PairsAt all at_hub h x = x ≡ h
PairsAt all (at_spoke s) h x = IsObject x × IsPairOf all s x h
PairsAt all nowhere h x = ⊥

abbrev pub IsFormAt : Definition → ℕ → ObjectView → ObjectView → Type 0
IsFormAt d v h x = PairsAt d.spokes (seat d v) h x
