use Rattle.std.proofs.Common.{◌∙◌, not, ap, sym}
use Rattle.std.specs.Prelude.{codes}
use Rattle.kj_value.specs.Fields.{field}
use Rattle.kj_value.specs.Json.{Json}
use Rattle.review_forms.specs.Form.{has_text, fields_of}
use Rattle.review_forms.proofs.Places.{found_here, not_here}
use Rattle.review_forms.proofs.indices.first_elsewhere.Goals as goal

pub returns-then-not-there : goal.returns-then-not-there
returns-then-not-there c =
    found_here (λ (k : Json). not (has_text c.args.desired.now (field (codes "apiVersion") (fields_of k)))) c.as_slice-values.result.now c.args.objects.now c.loop-i.i c.index-values-i.result c.as_slice-values.ensures.value c.loop-i.invariant c.loop-i-test.true c.index-values-i.is (ap not (sym c.is_at-there.ensures ∙ c.if-not-there.true))

pub loop-i-preserved : goal.loop-i-preserved
loop-i-preserved c =
    not_here (λ (k : Json). not (has_text c.args.desired.now (field (codes "apiVersion") (fields_of k)))) c.as_slice-values.result.now c.args.objects.now c.loop-i.i c.index-values-i.result c.as_slice-values.ensures.value c.loop-i.invariant c.loop-i-test.true c.index-values-i.is (ap not (sym c.is_at-there.ensures ∙ c.if-not-there.false))
