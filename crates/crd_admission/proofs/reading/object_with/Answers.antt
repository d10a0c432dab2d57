use Rattle.std.proofs.Common.{◌∙◌, codes, ap, refl}
use Rattle.kj_value.specs.Fields.{field, without_field}
use Rattle.kube_meta.specs.View.{meta_of}
use Rattle.object_reading.specs.Parts.{text_or_empty}
use Rattle.object_reading.proofs.Left.{field-without_other}
use Rattle.crd_admission.proofs.reading.object_with.Goals as goal

pub returns : goal.returns
returns c =
    let found = c.remove-2.ensures.value ∙ ap (field (codes "apiVersion")) c.remove.ensures.fields ∙ field-without_other (codes "apiVersion") (codes "kind") c.args.fields refl in
    let version = c.text_or_empty-api_version.ensures ∙ ap text_or_empty found in
    let kind = c.text_or_empty-kind.ensures ∙ ap text_or_empty c.remove.ensures.value in
    let body = c.remove-2.ensures.fields ∙ ap (without_field (codes "apiVersion")) c.remove.ensures.fields in
    λ i. record { api_version = version i; kind = kind i; meta = meta_of c.args.meta; body = body i }
