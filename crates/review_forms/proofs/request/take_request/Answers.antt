use Rattle.std.proofs.Common.{◌≡◌, ◌∙◌, Some, None, ap, sym}
use Rattle.std.proofs.lemmas.Result.{err_from_is_err_and}
use Rattle.kj_value.specs.Fields.{Pairs}
use Rattle.kj_value.specs.Seen.{json}
use Rattle.review_forms.specs.First.{first_told}
use Rattle.review_forms.specs.Form.{Path, part}
use Rattle.review_forms.specs.Request.{request_part, request_fault, field_faults}
use Rattle.review_forms.specs.Faults.{OnNotReview}
use Rattle.review_forms.specs.declared.fault.ReviewFault.{ReviewFault}
use Rattle.review_forms.proofs.Facts.{ok_from, err_from}
use Rattle.review_forms.proofs.Paths.{on_other}
use Rattle.review_forms.proofs.request.take_request.Goals as goal

pub returns-in_err-fields-clause-refused : goal.returns-in_err-fields-clause-refused
returns-in_err-fields-clause-refused c =
    let p = err_from_is_err_and c.from_residual.result c.from_residual.ensures.1 in
    rw (p.1, p.2) (c.in_err-fields.ensures.refused (field_faults (part request_part (json c.args.review))))

pub returns-clause-form : goal.returns-clause-form
returns-clause-form c =
    let j = json c.args.review in
    ok_from (λ _. first_told (field_faults c.in_ok-fields.fields) ≡ None) (λ _. request_fault j ≡ None) c.take_fields.result (λ _ h. c.in_ok-fields.ensures.form (field_faults (part request_part j)) ∙ (ap (λ (es : Pairs). first_told (field_faults es)) (sym c.in_ok-fields.ensures.part) ∙ h)) c.take_fields.ensures.form

pub returns-clause-refused : goal.returns-clause-refused
returns-clause-refused c =
    let j = json c.args.review in
    err_from (OnNotReview (λ (p : Path). first_told (field_faults c.in_ok-fields.fields) ≡ Some p)) (OnNotReview (λ (p : Path). request_fault j ≡ Some p)) c.take_fields.result (λ (f : ReviewFault). on_other (λ (p : Path). first_told (field_faults c.in_ok-fields.fields) ≡ Some p) (λ (p : Path). request_fault j ≡ Some p) f (λ p h. c.in_ok-fields.ensures.form (field_faults (part request_part j)) ∙ (ap (λ (es : Pairs). first_told (field_faults es)) (sym c.in_ok-fields.ensures.part) ∙ h))) c.take_fields.ensures.refused
