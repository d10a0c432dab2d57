use Rattle.std.proofs.Common.{◌∙◌, ap, subst}
use Rattle.object_reading.specs.Refusal.{first_holding, not_object, bad_version, wrong_kind, bad_name, Tells}
use Rattle.object_reading.specs.declared.fault.ObjectFault.{ObjectFault}
use Rattle.crd_meaning.specs.Request.{metadata_field}
use Rattle.crd_meaning.specs.Document.{judged_metadata}
use Rattle.crd_admission.proofs.DocumentRows.{of_field, told_field}
use Rattle.crd_admission.proofs.document_faults.broken.Goals as goal

pub returns-in_ok-field-in-BadMeta : goal.returns-in_ok-field-in-BadMeta
returns-in_ok-field-in-BadMeta c = λ m h.
    told_field c.args.name.bytes c.in-BadMeta.field.bytes c.in_ok-field-in-BadMeta.field.bytes (first_holding (judged_metadata m)) (c.in_ok-field-in-BadMeta.ensures ∙ ap metadata_field c.as_str.ensures) (subst (λ (e : ObjectFault). Tells e (first_holding (judged_metadata m))) c.in-BadMeta.is h)

pub unreachable-requires : goal.unreachable-requires
unreachable-requires c =
    of_field c.requires.0 not_object (subst (λ (e : ObjectFault). Tells e (first_holding (judged_metadata c.requires.0))) c.in-NotObject.is c.requires.1)

pub unreachable-requires-in-BadVersion : goal.unreachable-requires-in-BadVersion
unreachable-requires-in-BadVersion c =
    of_field c.requires.0 bad_version (subst (λ (e : ObjectFault). Tells e (first_holding (judged_metadata c.requires.0))) c.in-BadVersion.is c.requires.1)

pub unreachable-requires-in-WrongKind : goal.unreachable-requires-in-WrongKind
unreachable-requires-in-WrongKind c =
    of_field c.requires.0 wrong_kind (subst (λ (e : ObjectFault). Tells e (first_holding (judged_metadata c.requires.0))) c.in-WrongKind.is c.requires.1)

pub unreachable-requires-in-BadName : goal.unreachable-requires-in-BadName
unreachable-requires-in-BadName c =
    of_field c.requires.0 bad_name (subst (λ (e : ObjectFault). Tells e (first_holding (judged_metadata c.requires.0))) c.in-BadName.is c.requires.1)
