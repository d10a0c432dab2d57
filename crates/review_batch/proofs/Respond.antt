-- The text of a response is that of what comes of the request.
use Rattle.std.proofs.Common.{◌≡◌, ℕ, List, [], ◌++◌, Result, Ok, Err, ap, sym, ◌∙◌}
use Rattle.std.specs.Prelude.{IfOk}
use Rattle.kj_value.specs.Json.{items_of}
use Rattle.kj_value.specs.Text.{items_text, quoted}
use Rattle.kj_value.specs.Txt.{Bytes}
use Rattle.crd_meaning.specs.Definition.{Definition}
use Rattle.review_forms.specs.Page.{PageView}
use Rattle.review_forms.specs.Request.{RequestView}
use Rattle.review_batch.specs.Answer.{ComesOfReview, IsGroupVersion, success, failure, all}
use Rattle.review_forms.specs.Spelling.{review_end}
use Rattle.review_batch.specs.inner.Spelling.{success_front, success_middle, failure_front, failure_middle}
use Rattle.review_batch.specs.inner.Steps.{GoesOn, IsResponse}
use Rattle.review_batch.proofs.Spelled.{success-text, failure-text}

pub failed : {E : Type 0} (d : Definition) (r : RequestView) (message page : List ℕ) (res : Result Bytes E) → ComesOfReview d r (failure message) → page ≡ []
    → IfOk res (λ t. t.bytes ≡ page ++ failure_front ++ quoted message ++ failure_middle ++ quoted r.uid ++ review_end)
    → IfOk res (λ t. IsResponse d r t.bytes)
failed d r message page (Ok t) comes empty e = record {
  outcome = failure message;
  comes = comes;
  spelled = e ∙ (ap (λ (p : List ℕ). p ++ failure_front ++ quoted message ++ failure_middle ++ quoted r.uid ++ review_end) empty ∙ sym (failure-text r.uid message));
}
failed d r message page (Err x) comes empty e = tt

pub succeeded : {E : Type 0} (d : Definition) (r : RequestView) (v : ℕ) (before now : PageView) (res : Result Bytes E) → IsGroupVersion d r.desired v
    → GoesOn d v r.objects before now → before.text ≡ success_front
    → IfOk res (λ t. t.bytes ≡ now.text ++ success_middle ++ quoted r.uid ++ review_end)
    → IfOk res (λ t. IsResponse d r t.bytes)
succeeded d r v before now (Ok t) known g front e = record {
  outcome = success g.values;
  comes = all v g.values known g.converted;
  spelled = e
      ∙ (ap (λ (p : PageView). p.text ++ success_middle ++ quoted r.uid ++ review_end) g.added
      ∙ (ap (λ (s : List ℕ). (s ++ items_text (items_of g.values)) ++ success_middle ++ quoted r.uid ++ review_end) front ∙ sym (success-text r.uid g.values)));
}
succeeded d r v before now (Err x) known g front e = tt
