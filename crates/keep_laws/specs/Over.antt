-- How an object of a spoke goes to the hub, whatever its annotations keep; and the first annotation that can't be read.
use Rattle.std.specs.Prelude.{◌≡◌, List, Bool, true, false, Option, None, Some, is_some}
use Rattle.std.specs.Str.{bytes_eq}
use Rattle.std.specs.Ordering.{nat_cmp}
use Rattle.std.specs.Cmp.Lexicographic.{slice_cmp}
use Rattle.std.specs.declared.cmp.Ordering.TheVariants.{Less}
use Rattle.kj_value.specs.Fields.{Pairs, field}
use Rattle.kube_meta.specs.View.{Texts, ObjectView}
use Rattle.kept_entries.specs.declared.entry.Entry.{Entry}
use Rattle.kept_entries.specs.Text.{IsKept}
use Rattle.hub_cells.specs.Level.{Name}
use Rattle.keep_laws.specs.Complete.{completed_over}
use Rattle.keep_laws.specs.Spokes.{Spoke, Spokes, api_version, fills_at}
use Rattle.keep_laws.specs.Keys.{KeyKind, plain, of_hub, of_spoke, of_none, hub_key, key_kind}
use Rattle.keep_laws.specs.Notes.{noted, Spells, IsNoteOf, IsObject, with_entries, without_notes}
use Rattle.keep_laws.specs.Judging.{IsJudged, is_own}

-- this spoke's own annotation keeps what the hub can't hold, whatever stood there; another's is judged at the hub's body
abbrev pub SpokeNoteOver : Bool → Spoke → Pairs → List Entry → Option Name → Option Name → Type 0
SpokeNoteOver true t body es o p = IsNoteOf es p
SpokeNoteOver false t body es o p = IsJudged t body o p

abbrev pub NoteOver : Spoke → Pairs → List Entry → KeyKind → Option Name → Option Name → Type 0
NoteOver s body es plain o p = p ≡ o
NoteOver s body es of_hub o p = p ≡ None
NoteOver s body es (of_spoke t) o p = SpokeNoteOver (bytes_eq t.name s.name) t body es o p
NoteOver s body es of_none o p = p ≡ None

-- x at the spoke becomes h at the hub, what comes over being completed; x keeps hub_kept of the hub, and h spoke_kept of the
-- spoke
pub record GoesOver (all : Spokes) (s : Spoke) (x h : ObjectView) : Type 0 where
  pub version : h.api_version ≡ api_version all.group all.hub
  pub kind : h.kind ≡ x.kind
  pub meta : without_notes h.meta ≡ without_notes x.meta
  pub object : IsObject h
  pub hub_kept : List Entry
  pub spoke_kept : List Entry
  pub spelled : Spells (noted hub_key x) hub_kept
  pub bodies : with_entries h.body spoke_kept ≡ completed_over (fills_at all s) s.fit.level (with_entries x.body hub_kept)
  pub notes : (k : Name) → NoteOver s h.body spoke_kept (key_kind all k) (noted k x) (noted k h)

-- ---- which annotations are read, by the side that their object stands on

abbrev pub IsRead : Option Name → KeyKind → Type 0
IsRead own plain = ⊥
IsRead own of_hub = is_some own ≡ true
IsRead own (of_spoke s) = is_own own s.name ≡ false
IsRead own of_none = ⊥

-- the first by key that is read and whose text spells no entries
pub record IsFirstBad (all : Spokes) (own : Option Name) (ns : Texts) (k : Name) : Type 0 where
  pub read : IsRead own (key_kind all k)
  pub text : Name
  pub there : field k ns ≡ Some text
  pub bad : (es : List Entry) → IsKept text es → ⊥
  pub first : (j t : Name) → slice_cmp nat_cmp j k ≡ Less → IsRead own (key_kind all j) → field j ns ≡ Some t → (es : List Entry) × IsKept t es

-- for private clauses: where the hub's annotation is read, it spells entries
abbrev pub HubIsRead : Option Name → Texts → Type 0
HubIsRead own ns = is_some own ≡ true → (t : Name) → field hub_key ns ≡ Some t → (es : List Entry) × IsKept t es
