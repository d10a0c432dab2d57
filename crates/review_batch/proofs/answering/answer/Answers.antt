use Rattle.std.proofs.Common.{◌≡◌, Some, [], sym, subst}
use Rattle.std.proofs.lemmas.Result.{err_from_is_err_and}
use Rattle.kj_value.specs.Seen.{json}
use Rattle.review_forms.specs.Form.{Path, IsUnreadable}
use Rattle.review_forms.specs.Request.{request_fault}
use Rattle.review_batch.specs.Answer.{IsNoRequest, unread, other}
use Rattle.review_forms.proofs.Paths.{on_other}
use Rattle.review_batch.proofs.answering.answer.Goals as goal

pub returns-in_err-document-clause-refused : goal.returns-in_err-document-clause-refused
returns-in_err-document-clause-refused c =
    let bytes = c.args.review.now in
    let p = err_from_is_err_and c.from_residual.result c.from_residual.ensures.1 in
    rw (p.1, p.2) (on_other (λ (q : Path). (q ≡ []) × IsUnreadable bytes) (IsNoRequest bytes) c.in_err-document.field-0.0 (λ q k. subst (IsNoRequest bytes) (sym k.0) (unread k.1)) c.in_err-document.ensures.refused)

pub returns-in_err-request-clause-refused : goal.returns-in_err-request-clause-refused
returns-in_err-request-clause-refused c =
    let bytes = c.args.review.now in
    let j = json c.in_ok-document.document in
    let p = err_from_is_err_and c.from_residual-in_err-request.result c.from_residual-in_err-request.ensures.1 in
    rw (p.1, p.2) (on_other (λ (q : Path). request_fault j ≡ Some q) (IsNoRequest bytes) c.in_err-request.field-0.0 (λ q k. other j q c.in_ok-document.ensures.read k) c.in_err-request.ensures.refused)
