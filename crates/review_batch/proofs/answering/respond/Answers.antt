use Rattle.std.proofs.Common.{◌≡◌, ◌∙◌, ◌++◌, ℕ, List, ap, sym, subst}
use Rattle.crd_versions.specs.Set.{definition_of}
use Rattle.kj_value.specs.Txt.{Bytes}
use Rattle.review_forms.specs.Page.{PageView}
use Rattle.review_batch.specs.Answer.{IsGroupVersion, IsFirstWithout, ComesOfReview, failure, unknown, without, unknown_version}
use Rattle.review_forms.specs.Seen.{view_of}
use Rattle.review_batch.specs.inner.Spelling.{success_front}
use Rattle.review_batch.specs.inner.Steps.{GoesOn}
use Rattle.review_forms.proofs.Facts.{when_none, when_some}
use Rattle.review_batch.proofs.Respond.{failed, succeeded}
use Rattle.review_batch.proofs.answering.respond.Goals as goal

pub returns-in_default-clause-response : goal.returns-in_default-clause-response
unfolding unknown_version
returns-in_default-clause-response c =
    let d = definition_of c.args.set.now in
    let r = view_of c.args.request in
    let comes : ComesOfReview d r (failure c.in_ok-message.message.bytes) =
    subst (λ (m : List ℕ). ComesOfReview d r (failure m)) (sym c.in_ok-message.ensures) (unknown (λ v k. c.in_default.ensures v (subst (λ (s : List ℕ). IsGroupVersion d s v) (sym c.as_str.ensures) k))) in
    failed d r c.in_ok-message.message.bytes c.in_ok-page.page.text c.failure.result comes (ap (λ (p : PageView). p.text) c.in_ok-page.ensures) c.failure.ensures.text

pub returns-in-None-clause-response : goal.returns-in-None-clause-response
unfolding success_front
returns-in-None-clause-response c =
    let d = definition_of c.args.set.now in
    let r = view_of c.args.request in
    let known : IsGroupVersion d r.desired c.in-Some.to = subst (λ (s : List ℕ). IsGroupVersion d s c.in-Some.to) c.as_str.ensures c.in-Some.ensures in
    let g : GoesOn d c.in-Some.to r.objects c.add.new.self c.converted.new.page =
    when_none _ (λ (m : Bytes). IsFirstWithout d c.in-Some.to r.objects m.bytes) c.in_ok-converted.field-0 c.in-None.is c.in_ok-converted.ensures in
    let front : c.add.new.self.text ≡ success_front = ap (λ (p : PageView). p.text) c.in_ok-add.ensures ∙ ap (λ (p : PageView). p.text ++ success_front) c.in_ok-page.ensures in
    succeeded d r c.in-Some.to c.add.new.self c.converted.new.page c.success_end.result known g front c.success_end.ensures.text

pub returns-clause-response : goal.returns-clause-response
returns-clause-response c =
    let d = definition_of c.args.set.now in
    let r = view_of c.args.request in
    let known : IsGroupVersion d r.desired c.in-Some.to = subst (λ (s : List ℕ). IsGroupVersion d s c.in-Some.to) c.as_str.ensures c.in-Some.ensures in
    let h : IsFirstWithout d c.in-Some.to r.objects c.in-Some-2.message.bytes =
    when_some (GoesOn d c.in-Some.to r.objects c.add.new.self c.converted.new.page) (λ (m : Bytes). IsFirstWithout d c.in-Some.to r.objects m.bytes) c.in_ok-converted.field-0 c.in-Some-2.message c.in-Some-2.is c.in_ok-converted.ensures in
    failed d r c.in-Some-2.message.bytes c.in_ok-page-in-Some-2.page.text c.failure-in-Some-2.result (without c.in-Some.to c.in-Some-2.message.bytes known h) (ap (λ (p : PageView). p.text) c.in_ok-page-in-Some-2.ensures) c.failure-in-Some-2.ensures.text
