-- What is known of a fault is known of its path.
use Rattle.std.proofs.Common.{◌≡◌, sym, subst}
use Rattle.review_forms.specs.Form.{Path}
use Rattle.review_forms.specs.Response.{Refusal, not_review}
use Rattle.review_forms.specs.Faults.{OnNotReview, OnRefusal}
use Rattle.review_forms.specs.Told.{response_fault_of}
use Rattle.review_forms.specs.declared.fault.ReviewFault.{ReviewFault}
use Rattle.review_forms.specs.declared.fault.ReviewFault.TheVariants as review
use Rattle.review_forms.specs.declared.fault.ResponseFault.{ResponseFault}
use Rattle.review_forms.specs.declared.fault.ResponseFault.TheVariants as response

pub on_path : (P : Path → Type 0) (p : Path) (f : ReviewFault) → P p → OnNotReview (λ q. q ≡ p) f → OnNotReview P f
on_path P p (review.NotReview path) h e = subst P (sym e) h
on_path P p review.NoMemory h e = tt

-- from one fact of the path to another
pub on_other : (P Q : Path → Type 0) (f : ReviewFault) → ((p : Path) → P p → Q p) → OnNotReview P f → OnNotReview Q f
on_other P Q (review.NotReview path) go h = go path.bytes h
on_other P Q review.NoMemory go h = tt

-- as the fault of a response
pub on_response : (P : Path → Type 0) (Q : Refusal → Type 0) (f : ReviewFault) (e : ResponseFault) → e ≡ response_fault_of f
    → ((p : Path) → P p → Q (not_review p)) → OnNotReview P f → OnRefusal Q e
on_response P Q (review.NotReview path) e is go h = subst (OnRefusal Q) (sym is) (go path.bytes h)
on_response P Q review.NoMemory e is go h = subst (OnRefusal Q) (sym is) tt

pub on_refusal : (P Q : Refusal → Type 0) (f : ResponseFault) → ((r : Refusal) → P r → Q r) → OnRefusal P f → OnRefusal Q f
on_refusal P Q (response.NotReview path) go h = go (not_review path.bytes) h
on_refusal P Q response.WrongUid go h = go _ h
on_refusal P Q (response.RemoteFailed message) go h = go _ h
on_refusal P Q (response.WrongCount want got) go h = go _ h
on_refusal P Q (response.WrongVersion i) go h = go _ h
on_refusal P Q (response.ChangedIdentity i) go h = go _ h
on_refusal P Q response.NoMemory go h = tt
