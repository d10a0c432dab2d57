-- What a definition answers to the request of a review: the converted objects, or why there are none.
use Rattle.std.specs.Prelude.{◌≡◌, ◌<◌, ℕ, List, [], ◌∷◌, ◌++◌, length, None, Some, codes, decimal}
use Rattle.kj_value.specs.Json.{Json, text, list, object, items_of, members_of}
use Rattle.kj_value.specs.Reading.{Reads}
use Rattle.kj_value.specs.Rule.{rule_word}
use Rattle.kj_value.specs.Text.{text_of}
use Rattle.api_calls.specs.Cause.{CauseView}
use Rattle.api_calls.specs.Meaning.{invalid}
use Rattle.keep_laws.specs.Spokes.{api_version}
use Rattle.crd_meaning.specs.Definition.{Definition, count_of, version_at}
use Rattle.crd_meaning.specs.Converted.{IsConverted}
use Rattle.crd_meaning.specs.Unconverted.{IsUnconverted}
use Rattle.review_forms.specs.declared.levels.TheConstants.{REVIEW_LEVELS}
use Rattle.review_forms.specs.Form.{Path, part, response_part, IsUnreadable}
use Rattle.review_forms.specs.Request.{RequestView, request_part, request_fault, request_of, review_document}

-- ---- the result

-- the converted objects, in order, or a message
pub data Outcome : Type 0 where
  success : List Json → Outcome
  failure : List ℕ → Outcome

-- the text is group and version of version v
pub record IsGroupVersion (d : Definition) (s : List ℕ) (v : ℕ) : Type 0 where
  pub known : v < count_of d
  pub named : s ≡ api_version d.view.group (version_at d v).name

-- each document has the other list's document at its place for its value at version v
abbrev pub AreConverted : Definition → ℕ → List Json → List Json → Type 0
AreConverted d v [] [] = Unit {0}
AreConverted d v [] (k ∷ ks) = ⊥
AreConverted d v (j ∷ js) [] = ⊥
AreConverted d v (j ∷ js) (k ∷ ks) = IsConverted d j v k × AreConverted d v js ks

unfoldable pub unknown_version : List ℕ
unknown_version = codes "desiredAPIVersion: Unknown"

-- of an object that has no value
unfoldable pub blame : ℕ → CauseView → List ℕ
blame i cause = codes "object " ++ decimal i ++ codes ": " ++ cause.field ++ codes ": " ++ rule_word cause.rule

-- one of the documents has no value at version v, those before it have one, and the message tells why
pub record IsFirstWithout (d : Definition) (v : ℕ) (js : List Json) (message : List ℕ) : Type 0 where
  pub before : List Json
  pub first : Json
  pub after : List Json
  pub there : js ≡ before ++ first ∷ after
  pub values : List Json
  pub converted : AreConverted d v before values
  pub none : (k : Json) → IsConverted d first v k → ⊥
  pub name : List ℕ
  pub cause : CauseView
  pub why : IsUnconverted d first (invalid name cause)
  pub told : message ≡ blame (length before) cause

-- what comes of the request
pub data ComesOfReview (d : Definition) (r : RequestView) : Outcome → Type 0 where
  unknown : ((v : ℕ) → IsGroupVersion d r.desired v → ⊥) → ComesOfReview d r (failure unknown_version)
  without : (v : ℕ) (message : List ℕ) → IsGroupVersion d r.desired v → IsFirstWithout d v r.objects message → ComesOfReview d r (failure message)
  all : (v : ℕ) (ks : List Json) → IsGroupVersion d r.desired v → AreConverted d v r.objects ks → ComesOfReview d r (success ks)

-- ---- the document of a response

abbrev pub response_document : List ℕ → Outcome → Json
response_document uid (success ks) = review_document response_part (object (members_of (
    (codes "convertedObjects", list (items_of ks))
    ∷ (codes "result", object (members_of ((codes "status", text (codes "Success")) ∷ [])))
    ∷ (codes "uid", text uid)
    ∷ [])))
response_document uid (failure message) = review_document response_part (object (members_of (
    (codes "result", object (members_of ((codes "message", text message) ∷ (codes "status", text (codes "Failure")) ∷ [])))
    ∷ (codes "uid", text uid)
    ∷ [])))

-- ---- an answer to bytes

-- the bytes are a review of a request, and the text is the response
pub record IsAnswer (d : Definition) (bytes answer : List ℕ) : Type 0 where
  pub review : Json
  pub reads : Reads bytes REVIEW_LEVELS review
  pub form : request_fault review ≡ None
  pub outcome : Outcome
  pub comes : ComesOfReview d (request_of (part request_part review)) outcome
  pub spelled : answer ≡ text_of (response_document (request_of (part request_part review)).uid outcome)

-- the bytes are no review of a request: they aren't read, or the place has another form, and none before it has
pub data IsNoRequest (bytes : List ℕ) : Path → Type 0 where
  unread : IsUnreadable bytes → IsNoRequest bytes []
  other : (j : Json) (path : Path) → Reads bytes REVIEW_LEVELS j → request_fault j ≡ Some path → IsNoRequest bytes path
