-- A text spells one list of entries, and annotations put in are found.
use Rattle.std.proofs.Common.{◌≡◌, List, [], Option, Some, None, refl, ap, ap₂, sym, ◌∙◌}
use Rattle.kj_value.specs.Fields.{field}
use Rattle.kube_meta.specs.View.{Texts, MetaView, ObjectView}
use Rattle.kept_entries.specs.declared.entry.Entry.{Entry}
use Rattle.hub_cells.specs.Level.{Name}
use Rattle.hub_cells.specs.Side.{hub}
use Rattle.keep_laws.specs.Spokes.{Spoke}
use Rattle.kj_value.specs.Fields.{Pairs}
use Rattle.keep_laws.specs.Notes.{Spells, note, IsNoteOf, with_note, without_notes}
use Rattle.keep_laws.specs.Judging.{IsJudged, living_entries}
use Rattle.keep_laws.specs.Given.{OneList}
use Rattle.keep_laws.proofs.Texts.{field_same, field_other}

pub spells_one : OneList → (o : Option Name) (es fs : List Entry) → Spells o es → Spells o fs → es ≡ fs
spells_one one None es fs a b = a ∙ sym b
spells_one one (Some t) es fs a b = one t es fs a b

pub one_note : OneList → (o : Option Name) (es fs : List Entry) → IsNoteOf es o → IsNoteOf fs o → es ≡ fs
one_note one o es fs a b = spells_one one o es fs a.spelled b.spelled

pub no_note : IsNoteOf [] None
no_note = record { spelled = refl; written = refl }

pub judged_one : OneList → (s : Spoke) (body : Pairs) (o p q : Option Name) → IsJudged s body o p → IsJudged s body o q → p ≡ q
judged_one one s body None p q a b = a ∙ sym b
judged_one one s body (Some t) p q a b =
    a.2.written ∙ ap (λ (es : List Entry). note (living_entries hub s body es)) (one t a.0 b.0 a.1 b.1) ∙ sym b.2.written

pub with_note-same : (k : Name) (o : Option Name) (ns : Texts) → field k ns ≡ None → field k (with_note k o ns) ≡ o
with_note-same k None ns h = h
with_note-same k (Some t) ns h = field_same k t ns

pub with_note-other : (k n : Name) (o : Option Name) (ns : Texts) → (k ≡ n → ⊥) → field k (with_note n o ns) ≡ field k ns
with_note-other k n None ns h = refl
with_note-other k n (Some t) ns h = field_other k n t ns h

pub same_meta : (m n : MetaView) → without_notes m ≡ without_notes n → m.annotations ≡ n.annotations → m ≡ n
same_meta m n p q = ap₂ (λ (w : MetaView) (ns : Texts). record w { annotations = ns }) p q

pub same_object : (x y : ObjectView) → x.api_version ≡ y.api_version → x.kind ≡ y.kind → x.meta ≡ y.meta → x.body ≡ y.body → x ≡ y
same_object x y a b c d = λ i. record { api_version = a i; kind = b i; meta = c i; body = d i }
