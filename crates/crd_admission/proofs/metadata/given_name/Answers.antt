use Rattle.std.proofs.Common.{◌∙◌, ap}
use Rattle.std.specs.Prelude.{codes}
use Rattle.kj_value.specs.Fields.{field}
use Rattle.object_reading.specs.Parts.{text_or_empty, meta_in}
use Rattle.crd_meaning.specs.Request.{meta_fields}
use Rattle.crd_admission.proofs.Lists.{given_text}
use Rattle.crd_admission.proofs.metadata.given_name.Goals as goal

pub returns : goal.returns
unfolding meta_in
returns c =
    c.in_ok-name.ensures ∙ ap text_or_empty c.in_metadata-value.ensures ∙ given_text (field (codes "name") (meta_fields c.args.fields.now))
