-- The text of a response in pieces.
use Rattle.std.proofs.Common.{◌≡◌, ℕ, List, [], ◌++◌, refl, ◌∙◌, append_assoc}
use Rattle.std.proofs.lemmas.List.{append-nil}
use Rattle.std.specs.Prelude.{codes}
use Rattle.kj_value.specs.Json.{Json, items_of}
use Rattle.kj_value.specs.Text.{text_of, items_text, quoted}
use Rattle.review_forms.specs.Form.{review_version, review_kind}
use Rattle.review_batch.specs.Answer.{response_document, success, failure}
use Rattle.review_forms.specs.Spelling.{review_end}
use Rattle.review_batch.specs.inner.Spelling.{success_front, success_middle, failure_front, failure_middle}

-- ---- a response of objects

success_laid : (uid : List ℕ) (ks : List Json)
    → text_of (response_document uid (success ks))
    ≡ success_front ++ (((((items_text (items_of ks) ++ codes "]") ++ (codes ",\"result\":{\"status\":\"Success\"},\"uid\":" ++ (quoted uid ++ []))) ++ codes "}") ++ []) ++ codes "}")
unfolding success_front review_version review_kind
success_laid uid ks = refl

success_arranged : (a i b s u e : List ℕ) → a ++ (((((i ++ b) ++ (s ++ (u ++ []))) ++ e) ++ []) ++ e) ≡ (((a ++ i) ++ (b ++ s)) ++ u) ++ (e ++ e)
success_arranged a i b s u e = simp (append_assoc, append-nil)

pub success-text : (uid : List ℕ) (ks : List Json)
    → text_of (response_document uid (success ks)) ≡ (((success_front ++ items_text (items_of ks)) ++ success_middle) ++ quoted uid) ++ review_end
unfolding success_middle review_end
success-text uid ks =
    success_laid uid ks
    ∙ success_arranged success_front (items_text (items_of ks)) (codes "]") (codes ",\"result\":{\"status\":\"Success\"},\"uid\":") (quoted uid) (codes "}")

-- ---- a response of a message

failure_laid : (uid message : List ℕ)
    → text_of (response_document uid (failure message))
    ≡ failure_front ++ ((((((quoted message ++ codes ",\"status\":\"Failure\"") ++ codes "}") ++ (codes ",\"uid\":" ++ (quoted uid ++ []))) ++ codes "}") ++ []) ++ codes "}")
unfolding failure_front review_version review_kind
failure_laid uid message = refl

failure_arranged : (a m s c u e : List ℕ) → a ++ ((((((m ++ s) ++ e) ++ (c ++ (u ++ []))) ++ e) ++ []) ++ e) ≡ (((a ++ m) ++ (s ++ (e ++ c))) ++ u) ++ (e ++ e)
failure_arranged a m s c u e = simp (append_assoc, append-nil)

pub failure-text : (uid message : List ℕ)
    → text_of (response_document uid (failure message)) ≡ (((failure_front ++ quoted message) ++ failure_middle) ++ quoted uid) ++ review_end
unfolding failure_middle review_end
failure-text uid message =
    failure_laid uid message
    ∙ failure_arranged failure_front (quoted message) (codes ",\"status\":\"Failure\"") (codes ",\"uid\":") (quoted uid) (codes "}")
