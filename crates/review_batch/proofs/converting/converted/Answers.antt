use Rattle.std.proofs.Common.{◌≡◌, ◌∙◌, ◌++◌, ◌+◌, ◌≤◌, ℕ, suc, List, length, drop, Some, ap, subst, arith}
use Rattle.std.specs.Prelude.{slice_get, is_none}
use Rattle.kj_value.specs.Json.{Json, null}
use Rattle.kj_value.specs.laws.Inside.{depth_at}
use Rattle.kj_value.specs.Kinds.{as_object}
use Rattle.kj_value.specs.Seen.{json}
use Rattle.kj_value.specs.Txt.{Bytes}
use Rattle.crd_versions.specs.Set.{definition_of}
use Rattle.review_forms.specs.Page.{PageView}
use Rattle.review_forms.specs.Spelling.{comma_before}
use Rattle.review_batch.specs.inner.Steps.{HasValue, HasNone}
use Rattle.review_forms.proofs.Facts.{none_mapped, when_ok, when_err}
use Rattle.review_forms.proofs.Places.{none_there}
use Rattle.review_forms.proofs.Snoc.{same_item, drop-put, drop-more, length-put}
use Rattle.review_batch.proofs.Steps.{Along, goes_on, first_without}
use Rattle.review_batch.proofs.converting.converted.Goals as goal

pub convert_one-requires-clause-kind : goal.convert_one-requires-clause-kind
convert_one-requires-clause-kind c =
    let j = json c.replace-object.result in
    let there : slice_get c.args.objects c.loop-i.i ≡ Some j = same_item c.loop-i.rest c.args.objects c.loop-i.i j c.loop-i.invariant.left c.replace-object.ensures.value in
    none_there (λ (k : Json). is_none (as_object k)) c.args.objects 0 c.loop-i.i j (none_mapped _ _ c.requires.all) there

pub convert_one-requires-clause-levels : goal.convert_one-requires-clause-levels
convert_one-requires-clause-levels c =
    let j = json c.replace-object.result in
    let there : slice_get c.args.objects c.loop-i.i ≡ Some j = same_item c.loop-i.rest c.args.objects c.loop-i.i j c.loop-i.invariant.left c.replace-object.ensures.value in
    omega (arith, depth_at c.args.objects c.loop-i.i j there, c.requires.levels)

pub returns-in-Err : goal.returns-in-Err
returns-in-Err c =
    let d = definition_of c.args.set.now in
    let j = json c.replace-object.result in
    let there : slice_get c.args.objects c.loop-i.i ≡ Some j = same_item c.loop-i.rest c.args.objects c.loop-i.i j c.loop-i.invariant.left c.replace-object.ensures.value in
    let within : c.loop-i.i ≤ length c.args.objects = omega (arith, c.loop-i-test.true, c.len-i-end.ensures.len) in
    let h : HasNone d c.args.to j c.loop-i.i c.in-Err.message.bytes =
    when_err (λ (t : Bytes). HasValue d c.args.to j t.bytes) (λ (m : Bytes). HasNone d c.args.to j c.loop-i.i m.bytes) c.in_ok-text.field-0 c.in-Err.message c.in-Err.is c.in_ok-text.ensures in
    first_without d c.args.to c.args.objects c.loop-i.i j c.args.page.now c.loop-i.page there within c.loop-i.invariant.done c.in-Err.message.bytes h

pub loop-i-preserved : goal.loop-i-preserved
loop-i-preserved c =
    let d = definition_of c.args.set.now in
    let j = json c.replace-object.result in
    let i = c.loop-i.i in
    let next : suc i ≡ i + 1 = omega arith in
    let there : slice_get c.args.objects i ≡ Some j = same_item c.loop-i.rest c.args.objects i j c.loop-i.invariant.left c.replace-object.ensures.value in
    let within : i ≤ length c.args.objects = omega (arith, c.loop-i-test.true, c.len-i-end.ensures.len) in
    let h : HasValue d c.args.to j c.in-Ok.text.bytes =
    when_ok (λ (t : Bytes). HasValue d c.args.to j t.bytes) (λ (m : Bytes). HasNone d c.args.to j i m.bytes) c.in_ok-text.field-0 c.in-Ok.text c.in-Ok.is c.in_ok-text.ensures in
    let comma : c.add.new.self ≡ record c.loop-i.page { text = c.loop-i.page.text ++ comma_before i } =
    c.in_ok-add-in-Ok.ensures ∙ ap (λ (s : List ℕ). record c.loop-i.page { text = c.loop-i.page.text ++ s }) c.comma_before.ensures in
    let after : c.add-in-Ok.new.self ≡ record c.loop-i.page { text = (c.loop-i.page.text ++ comma_before i) ++ c.in-Ok.text.bytes } =
    c.in_ok-add-in-Ok-2.ensures
    ∙ (ap (λ (s : List ℕ). record c.add.new.self { text = c.add.new.self.text ++ s }) c.as_str.ensures
    ∙ ap (λ (p : PageView). record p { text = p.text ++ c.in-Ok.text.bytes }) comma) in
    subst (λ n. Along d c.args.to c.args.objects c.replace-object.new.self n c.args.page.now c.add-in-Ok.new.self) next (record {
      left = ap (drop (suc i)) c.replace-object.ensures.items ∙ (drop-put c.loop-i.rest i null ∙ drop-more c.loop-i.rest c.args.objects i c.loop-i.invariant.left);
      long = ap length c.replace-object.ensures.items ∙ (length-put c.loop-i.rest i null ∙ c.loop-i.invariant.long);
      done = goes_on d c.args.to c.args.objects i j c.args.page.now c.loop-i.page there within c.loop-i.invariant.done c.in-Ok.text.bytes c.add-in-Ok.new.self h after;
    })
