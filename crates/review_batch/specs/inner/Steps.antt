-- For private clauses: what is known of the objects of a request on their way.
use Rattle.std.specs.Prelude.{◌≡◌, ℕ, List, ◌++◌}
use Rattle.kj_value.specs.Json.{Json, items_of}
use Rattle.kj_value.specs.Text.{text_of, items_text}
use Rattle.api_calls.specs.Cause.{CauseView}
use Rattle.api_calls.specs.Meaning.{invalid}
use Rattle.crd_meaning.specs.Definition.{Definition}
use Rattle.crd_meaning.specs.Converted.{IsConverted}
use Rattle.crd_meaning.specs.Unconverted.{IsUnconverted}
use Rattle.review_forms.specs.Page.{PageView}
use Rattle.review_forms.specs.Request.{RequestView}
use Rattle.review_batch.specs.Answer.{AreConverted, Outcome, ComesOfReview, blame, response_document}

-- the text is that of the document's value
pub record HasValue (d : Definition) (v : ℕ) (j : Json) (s : List ℕ) : Type 0 where
  pub value : Json
  pub converted : IsConverted d j v value
  pub spelled : s ≡ text_of value

-- the document has no value, and the message tells why
pub record HasNone (d : Definition) (v : ℕ) (j : Json) (i : ℕ) (message : List ℕ) : Type 0 where
  pub none : (k : Json) → IsConverted d j v k → ⊥
  pub name : List ℕ
  pub cause : CauseView
  pub why : IsUnconverted d j (invalid name cause)
  pub told : message ≡ blame i cause

-- the page goes on with the texts of the documents' values
pub record GoesOn (d : Definition) (v : ℕ) (js : List Json) (before now : PageView) : Type 0 where
  pub values : List Json
  pub converted : AreConverted d v js values
  pub added : now ≡ record before { text = before.text ++ items_text (items_of values) }

-- the text is that of the response to a request
pub record IsResponse (d : Definition) (r : RequestView) (s : List ℕ) : Type 0 where
  pub outcome : Outcome
  pub comes : ComesOfReview d r outcome
  pub spelled : s ≡ text_of (response_document r.uid outcome)
