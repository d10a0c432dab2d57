-- What a fault says of a review, an answer or an exchange. Want of memory says nothing.
use Rattle.std.specs.Prelude.{◌≡◌, ⊤, ◌⊎◌, ℕ, List, Option, None, Some}
use Rattle.edge_io.specs.Exchanges.{Exchange, one_more}
use Rattle.review_forms.specs.Form.{Path}
use Rattle.review_forms.specs.Response.{Refusal, not_review, wrong_uid, remote_failed, wrong_count, wrong_version, changed_identity}
use Rattle.review_forms.specs.declared.fault.ReviewFault.{ReviewFault}
use Rattle.review_forms.specs.declared.fault.ReviewFault.TheVariants as review
use Rattle.review_forms.specs.declared.fault.ResponseFault.{ResponseFault}
use Rattle.review_forms.specs.declared.fault.ResponseFault.TheVariants as response
use Rattle.review_forms.specs.declared.fault.AskFault.{AskFault}
use Rattle.review_forms.specs.declared.fault.AskFault.TheVariants as ask

-- P holds of the path
abbrev pub OnNotReview : (Path → Type 0) → ReviewFault → Type 0
OnNotReview P (review.NotReview path) = P path.bytes
OnNotReview P review.NoMemory = ⊤

-- P holds of what is refused
abbrev pub OnRefusal : (Refusal → Type 0) → ResponseFault → Type 0
OnRefusal P (response.NotReview path) = P (not_review path.bytes)
OnRefusal P response.WrongUid = P wrong_uid
OnRefusal P (response.RemoteFailed message) = P (remote_failed message.bytes)
OnRefusal P (response.WrongCount want got) = P (wrong_count want got)
OnRefusal P (response.WrongVersion i) = P (wrong_version i)
OnRefusal P (response.ChangedIdentity i) = P (changed_identity i)
OnRefusal P response.NoMemory = ⊤

-- ---- exchanges

-- one exchange was made, of the request, which was answered by bytes of which P holds
abbrev pub WasAnswered : Option (List Exchange) → Option (List Exchange) → List ℕ → (List ℕ → Type 0) → Type 0
WasAnswered before now request P = (bytes : List ℕ) × (now ≡ one_more before request (Some bytes)) × P bytes

-- Each fault has its cause: the link failed in the one exchange; the answer is refused; or memory was wanted, before the exchange
-- or behind it.
abbrev pub AskFailed : Option (List Exchange) → Option (List Exchange) → List ℕ → Type 0 → (List ℕ → Refusal → Type 0) → AskFault → Type 0
AskFailed before now request rose refused ask.LinkFault = rose × (now ≡ one_more before request None)
AskFailed before now request rose refused (ask.Response fault) = WasAnswered before now request (λ bytes. OnRefusal (refused bytes) fault)
AskFailed before now request rose refused ask.NoMemory = (now ≡ before) ⊎ WasAnswered before now request (λ bytes. ⊤)
