use Rattle.std.proofs.Common.{◌≡◌, ◌∙◌, ℕ, List, Some, ap, sym}
use Rattle.std.specs.Prelude.{option_map}
use Rattle.kj_value.specs.Json.{object, members_of}
use Rattle.kj_value.specs.Fields.{Pairs}
use Rattle.kj_value.specs.KindLaws.{pairs_members}
use Rattle.object_reading.specs.Parts.{parts_in, submitted}
use Rattle.object_reading.specs.Refusal.{refusal}
use Rattle.crd_meaning.specs.Request.{metadata_fault, given_name, metadata_rows}
use Rattle.crd_admission.specs.Steps.{IsFirst}
use Rattle.crd_admission.proofs.Refusing.{refused_more}
use Rattle.crd_admission.proofs.Rows.{metadata_first}
use Rattle.crd_admission.proofs.metadata.submitted.Goals as goal

pub returns-in-Ok-read_object-clause-nothing : goal.returns-in-Ok-read_object-clause-nothing
returns-in-Ok-read_object-clause-nothing c =
    let es : Pairs = c.args.fields in
    metadata_first c.args.kind.now es c.requires.version c.requires.kind ∙ ap (option_map (metadata_fault (given_name es))) c.in-Ok-read_object.ensures.accepted

pub returns-in-Ok-read_object-clause-object : goal.returns-in-Ok-read_object-clause-object
returns-in-Ok-read_object-clause-object c =
    c.in-Ok-read_object.ensures.object ∙ ap (λ (fs : Pairs). submitted (parts_in fs)) (pairs_members c.args.fields)

pub returns-in-Err-read_object-clause-refused : goal.returns-in-Err-read_object-clause-refused
returns-in-Err-read_object-clause-refused c =
    let es : Pairs = c.args.fields in
    let why = refusal c.args.kind.now (object (members_of es)) in
    refused_more (λ f. option_map (metadata_fault c.in-Ok.name.bytes) why ≡ Some f) (IsFirst (metadata_rows es)) c.metadata_fault.result
    (λ f h. metadata_first c.args.kind.now es c.requires.version c.requires.kind ∙ ap (λ (n : List ℕ). option_map (metadata_fault n) why) (sym c.in-Ok.ensures) ∙ h)
    (c.metadata_fault.ensures why c.in-Err-read_object.ensures.refused)
