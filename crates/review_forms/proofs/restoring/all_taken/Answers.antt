use Rattle.std.proofs.Common.{◌≡◌, ◌∙◌, ◌++◌, ◌∷◌, [], ◌+◌, suc, List, length, drop, Some, ap, subst, arith}
use Rattle.std.specs.Prelude.{slice_get}
use Rattle.kj_value.specs.Json.{Json, null}
use Rattle.kj_value.specs.Seen.{json}
use Rattle.review_forms.specs.Response.{taken}
use Rattle.review_forms.proofs.Snoc.{same_item, drop-put, drop-more, length-put, read_at}
use Rattle.review_forms.proofs.Takes.{Taking, take_more}
use Rattle.review_forms.proofs.restoring.all_taken.Goals as goal

pub loop-i-preserved : goal.loop-i-preserved
loop-i-preserved c =
    let i = c.loop-i.i in
    let j = json c.replace-object.result in
    let s = json c.index-others-i.result in
    let next : suc i ≡ i + 1 = omega arith in
    let there : slice_get c.args.objects i ≡ Some j = same_item c.loop-i.rest c.args.objects i j c.loop-i.invariant.left c.replace-object.ensures.value in
    let sent : slice_get c.args.sent.now i ≡ Some s = read_at c.as_slice-others.result.now c.args.sent.now i c.index-others-i.result c.as_slice-others.ensures.value c.loop-i-test.true c.index-others-i.is in
    let grown : c.push.new.self ≡ c.loop-i.made ++ taken j s ∷ [] = c.in_ok-push.ensures.ok ∙ ap (λ (k : Json). c.loop-i.made ++ k ∷ []) c.in_ok-taken.ensures in
    subst (λ n. Taking c.args.objects c.args.sent.now c.replace-object.new.self n c.push.new.self) next (record {
      left = ap (drop (suc i)) c.replace-object.ensures.items ∙ (drop-put c.loop-i.rest i null ∙ drop-more c.loop-i.rest c.args.objects i c.loop-i.invariant.left);
      long = ap length c.replace-object.ensures.items ∙ (length-put c.loop-i.rest i null ∙ c.loop-i.invariant.long);
      taken = grown ∙ (ap (λ (ks : List Json). ks ++ taken j s ∷ []) c.loop-i.invariant.taken ∙ take_more c.args.objects c.args.sent.now i j s there sent);
    })
