use Rattle.std.proofs.Common.{◌≡◌, ◌∙◌, Some, List, ℕ, ap, sym, codes}
use Rattle.std.specs.Prelude.{option_and_then}
use Rattle.kj_value.specs.Json.{object, members_of}
use Rattle.kj_value.specs.Seen.{json}
use Rattle.kj_value.specs.Fields.{Pairs, field}
use Rattle.kj_value.specs.declared.value.JVal.{JVal}
use Rattle.kube_meta.specs.Document.{metadata}
use Rattle.versions_fixture.specs.Parts.{meta_at, field_name, text_in}
use Rattle.versions_fixture.specs.DocumentLaws.{object_one, field-value}
use Rattle.versions_fixture.proofs.Found.{fields_are, found_metadata, metadata_object, metadata_there, text_back}
use Rattle.versions_fixture.proofs.reading.fields_parts.Goals as goal

pub returns-in-Some-Obj : goal.returns-in-Some-Obj
returns-in-Some-Obj c = λ p stamps is.
    let found : Some (object (members_of c.in-Some-Obj.metadata)) ≡ field (codes "metadata") c.args.fields.now =
    ap (λ (x : JVal). Some (json x)) (sym c.in-Some-Obj.field-0-is) ∙ c.in-Some-Obj.ensures in
    let metas : c.in-Some-Obj.metadata ≡ metadata (meta_at p) =
    object_one _ _ (found_metadata c.args.version p c.args.fields.now (object (members_of c.in-Some-Obj.metadata)) is found) in
    let value = c.text_at-value.ensures
    ∙ ap (λ (k : List ℕ). option_and_then text_in (field k c.args.fields.now)) c.field.ensures
    ∙ ap (λ (es : Pairs). option_and_then text_in (field (field_name c.args.version) es)) (fields_are c.args.version p c.args.fields.now is)
    ∙ ap (option_and_then text_in) (field-value c.args.version p)
    ∙ text_back p.value in
    c.metadata_parts.ensures p stamps metas value

pub returns-in-Some-Null : goal.returns-in-Some-Null
returns-in-Some-Null c = λ p stamps is.
    rw c.in-Some-Null.field-0-is at (metadata_object c.args.version p c.args.fields.now (json c.in-Some-Null.field-0.now) is c.in-Some-Null.ensures)

pub returns-in-Some-Bool : goal.returns-in-Some-Bool
returns-in-Some-Bool c = λ p stamps is.
    rw c.in-Some-Bool.field-0-is at (metadata_object c.args.version p c.args.fields.now (json c.in-Some-Bool.field-0.now) is c.in-Some-Bool.ensures)

pub returns-in-Some-Int : goal.returns-in-Some-Int
returns-in-Some-Int c = λ p stamps is.
    rw c.in-Some-Int.field-0-is at (metadata_object c.args.version p c.args.fields.now (json c.in-Some-Int.field-0.now) is c.in-Some-Int.ensures)

pub returns-in-Some-Text : goal.returns-in-Some-Text
returns-in-Some-Text c = λ p stamps is.
    rw c.in-Some-Text.field-0-is at (metadata_object c.args.version p c.args.fields.now (json c.in-Some-Text.field-0.now) is c.in-Some-Text.ensures)

pub returns-in-Some-List : goal.returns-in-Some-List
returns-in-Some-List c = λ p stamps is.
    rw c.in-Some-List.field-0-is at (metadata_object c.args.version p c.args.fields.now (json c.in-Some-List.field-0.now) is c.in-Some-List.ensures)

pub returns-in-None : goal.returns-in-None
returns-in-None c = λ p stamps is. metadata_there c.args.version p c.args.fields.now is c.in-None.ensures
