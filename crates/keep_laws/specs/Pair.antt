-- When an object of a spoke and one of the hub are one object.
use Rattle.std.specs.Prelude.{◌≡◌, List, Bool, true, false, Option, None}
use Rattle.std.specs.Str.{bytes_eq}
use Rattle.kube_meta.specs.View.{ObjectView}
use Rattle.kept_entries.specs.declared.entry.Entry.{Entry}
use Rattle.hub_cells.specs.Level.{Name}
use Rattle.keep_laws.specs.Whole.{IsPair}
use Rattle.keep_laws.specs.Spokes.{Spoke, Spokes, api_version}
use Rattle.keep_laws.specs.Keys.{KeyKind, plain, of_hub, of_spoke, of_none, key_kind}
use Rattle.keep_laws.specs.Notes.{noted, IsNoteOf, with_entries, without_notes}

-- this spoke's own annotation is the hub's alone; any other is equal
abbrev pub SpokeNotePair : Bool → List Entry → Option Name → Option Name → Type 0
SpokeNotePair true es o p = (o ≡ None) × IsNoteOf es p
SpokeNotePair false es o p = o ≡ p

-- o at the spoke, which keeps hub_kept of the hub, and p at the hub, which keeps spoke_kept of the spoke
abbrev pub NotePair : Spoke → List Entry → List Entry → KeyKind → Option Name → Option Name → Type 0
NotePair s hub_kept spoke_kept plain o p = o ≡ p
NotePair s hub_kept spoke_kept of_hub o p = IsNoteOf hub_kept o × (p ≡ None)
NotePair s hub_kept spoke_kept (of_spoke t) o p = SpokeNotePair (bytes_eq t.name s.name) spoke_kept o p
NotePair s hub_kept spoke_kept of_none o p = o ≡ p

-- x at the spoke, h at the hub
pub record IsPairOf (all : Spokes) (s : Spoke) (x h : ObjectView) : Type 0 where
  pub spoke_version : x.api_version ≡ api_version all.group s.name
  pub hub_version : h.api_version ≡ api_version all.group all.hub
  pub kind : x.kind ≡ h.kind
  pub meta : without_notes x.meta ≡ without_notes h.meta
  pub hub_kept : List Entry
  pub spoke_kept : List Entry
  pub notes : (k : Name) → NotePair s hub_kept spoke_kept (key_kind all k) (noted k x) (noted k h)
  pub bodies : IsPair s.fit.level (with_entries x.body hub_kept) (with_entries h.body spoke_kept)
