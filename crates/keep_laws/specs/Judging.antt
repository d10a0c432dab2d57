-- What becomes of each annotation of an object: its own side's goes, those of no known spoke, and dead entries.
use Rattle.std.specs.Prelude.{◌≡◌, List, Bool, true, false, Option, None, Some}
use Rattle.std.specs.Str.{bytes_eq}
use Rattle.kj_value.specs.Fields.{Pairs, field}
use Rattle.kube_meta.specs.View.{Texts}
use Rattle.kept_entries.specs.declared.entry.Entry.{Entry}
use Rattle.kept_entries.specs.Text.{IsKept}
use Rattle.hub_cells.specs.Side.{Side, spoke, hub}
use Rattle.hub_cells.specs.Level.{Name}
use Rattle.keep_laws.specs.Settle.{settled, converted}
use Rattle.keep_laws.specs.Spokes.{Spoke, Spokes}
use Rattle.keep_laws.specs.Keys.{KeyKind, plain, of_hub, of_spoke, of_none, key_kind}
use Rattle.keep_laws.specs.Notes.{IsNoteOf, with_entries}

-- the entries that are alive beside this body of the side
abbrev pub living_entries : Side → Spoke → Pairs → List Entry → List Entry
living_entries d s body es = (settled d s.fit.level (with_entries body es)).entries

-- the hub's body of a spoke's, beside which these entries are kept
abbrev pub hub_body : Spoke → Pairs → List Entry → Pairs
hub_body s body es = (converted spoke s.fit.level (with_entries body es)).fields

-- a spoke's annotation o, judged at a body of the hub, is p: what it keeps that is alive
abbrev pub IsJudged : Spoke → Pairs → Option Name → Option Name → Type 0
IsJudged s body None p = p ≡ None
IsJudged s body (Some t) p = (es : List Entry) × IsKept t es × IsNoteOf (living_entries hub s body es) p

-- the name is the one of the side that an object stands on; the hub has no name here
abbrev pub is_own : Option Name → Name → Bool
is_own None n = false
is_own (Some m) n = bytes_eq n m

abbrev pub SpokeNote : Bool → Spoke → Pairs → Option Name → Option Name → Type 0
SpokeNote true s body o p = p ≡ None
SpokeNote false s body o p = IsJudged s body o p

-- what becomes of an annotation o that isn't the hub's on an object of the side `own`, where `body` is the object's at the hub
abbrev pub OtherNote : Option Name → Pairs → KeyKind → Option Name → Option Name → Type 0
OtherNote own body plain o p = p ≡ o
OtherNote own body of_hub o p = p ≡ None
OtherNote own body (of_spoke s) o p = SpokeNote (is_own own s.name) s body o p
OtherNote own body of_none o p = p ≡ None

-- the same for all annotations of a map
abbrev pub Carries : Spokes → Option Name → Pairs → Texts → Texts → Type 0
Carries all own body xs ys = (k : Name) → OtherNote own body (key_kind all k) (field k xs) (field k ys)
