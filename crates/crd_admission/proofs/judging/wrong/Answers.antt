use Rattle.std.proofs.Common.{◌∙◌, ℕ, List, Option, codes, ap, ap₂}
use Rattle.kj_value.specs.Json.{Json}
use Rattle.kj_value.specs.Fields.{field}
use Rattle.kj_value.specs.declared.rule.Rule.TheVariants as rule
use Rattle.object_reading.specs.Fields.{object_at}
use Rattle.object_reading.specs.Parts.{text_or_empty, meta_in}
use Rattle.crd_meaning.specs.Request.{breaks}
use Rattle.crd_admission.proofs.judging.wrong.Goals as goal

pub returns : goal.returns
unfolding meta_in
returns c =
    ap₂ (λ (n p : List ℕ). breaks n p rule.Wrong) (c.in_ok-name.ensures ∙ ap (λ (o : Option Json). text_or_empty (field (codes "name") (object_at o))) c.get.ensures) c.in_ok-field.ensures
