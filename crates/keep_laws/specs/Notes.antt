-- The text of an annotation, and the kept entries that it spells.
use Rattle.std.specs.Prelude.{◌≡◌, List, [], ◌∷◌, Option, None, Some}
use Rattle.kj_value.specs.Fields.{Pairs, field, with_field, AreInOrder}
use Rattle.kj_value.specs.Json.{members_of}
use Rattle.kj_value.specs.Sound.{AreRising}
use Rattle.kube_meta.specs.View.{Texts, MetaView, ObjectView}
use Rattle.kept_entries.specs.declared.entry.Entry.{Entry}
use Rattle.kept_entries.specs.Text.{kept_text, IsKept}
use Rattle.hub_cells.specs.Level.{Name}
use Rattle.keep_laws.specs.Whole.{Held}

-- the annotation of an object at a key
abbrev pub noted : Name → ObjectView → Option Name
noted k o = field k o.meta.annotations

-- an annotation that isn't there spells no entries
abbrev pub Spells : Option Name → List Entry → Type 0
Spells None es = es ≡ []
Spells (Some t) es = IsKept t es

-- no annotation stands for no entries
abbrev pub note : List Entry → Option Name
note [] = None
note (e ∷ es) = Some (kept_text (e ∷ es))

-- the one annotation that keeps these entries
pub record IsNoteOf (es : List Entry) (o : Option Name) : Type 0 where
  pub spelled : Spells o es
  pub written : o ≡ note es

-- annotations with one more, where it is there
abbrev pub with_note : Name → Option Name → Texts → Texts
with_note k None ns = ns
with_note k (Some t) ns = with_field k t ns

abbrev pub with_entries : Pairs → List Entry → Held
with_entries body es = record { fields = body; entries = es }

abbrev pub without_notes : MetaView → MetaView
without_notes m = record m { annotations = [] }

-- names rise, and numbers have 64 bits
pub record IsObject (o : ObjectView) : Type 0 where
  pub annotations : AreInOrder o.meta.annotations
  pub body : AreRising (members_of o.body)
