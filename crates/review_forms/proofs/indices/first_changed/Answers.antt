use Rattle.std.proofs.Common.{◌≡◌, ◌∙◌, ◌<◌, not, length, map, ap, sym, arith}
use Rattle.kj_value.specs.Json.{Json}
use Rattle.std.proofs.lemmas.List.{length-map}
use Rattle.kj_value.specs.Seen.{json}
use Rattle.kj_value.specs.declared.value.JVal.{JVal}
use Rattle.std.proofs.Common.{List}
use Rattle.review_forms.specs.Response.{is_same_object}
use Rattle.review_forms.proofs.Places.{pair_here, no_pair_here, no_pair}
use Rattle.review_forms.proofs.indices.first_changed.Goals as goal

as_long : (vs ws : List JVal) (xs ys : List Json) → map json vs ≡ xs → map json ws ≡ ys → length xs ≡ length ys → length vs ≡ length ws
as_long vs ws xs ys p q e = sym (length-map vs json) ∙ (ap length p ∙ (e ∙ (sym (ap length q) ∙ length-map ws json)))

pub returns-then-not-same : goal.returns-then-not-same
returns-then-not-same c =
    let same = as_long c.as_slice-values.result.now c.as_slice-others.result.now c.args.objects.now c.args.sent.now c.as_slice-values.ensures.value c.as_slice-others.ensures.value c.requires in
    let inside : c.loop-i.i < length c.as_slice-others.result.now = omega (arith, same, c.loop-i-test.true) in
    pair_here (λ (p : Json × Json). not (is_same_object p.0 p.1)) c.as_slice-values.result.now c.as_slice-others.result.now c.args.objects.now c.args.sent.now c.loop-i.i c.as_slice-values.ensures.value c.as_slice-others.ensures.value c.loop-i.invariant c.index-values-i.result c.index-others-i.result c.loop-i-test.true inside c.index-values-i.is c.index-others-i.is (ap not (sym c.is_same_object-same.ensures ∙ c.if-not-same.true))

pub loop-i-preserved : goal.loop-i-preserved
loop-i-preserved c =
    let same = as_long c.as_slice-values.result.now c.as_slice-others.result.now c.args.objects.now c.args.sent.now c.as_slice-values.ensures.value c.as_slice-others.ensures.value c.requires in
    let inside : c.loop-i.i < length c.as_slice-others.result.now = omega (arith, same, c.loop-i-test.true) in
    no_pair_here (λ (p : Json × Json). not (is_same_object p.0 p.1)) c.as_slice-values.result.now c.as_slice-others.result.now c.args.objects.now c.args.sent.now c.loop-i.i c.as_slice-values.ensures.value c.as_slice-others.ensures.value c.loop-i.invariant c.index-values-i.result c.index-others-i.result c.loop-i-test.true inside c.index-values-i.is c.index-others-i.is (ap not (sym c.is_same_object-same.ensures ∙ c.if-not-same.false))

pub returns : goal.returns
returns c =
    no_pair (λ (p : Json × Json). not (is_same_object p.0 p.1)) c.as_slice-values.result.now c.as_slice-others.result.now c.args.objects.now c.args.sent.now c.loop-i.i c.as_slice-values.ensures.value c.as_slice-others.ensures.value c.loop-i.invariant c.loop-i-test.false
