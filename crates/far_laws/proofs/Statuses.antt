-- What the refusals of a server tell by their codes and texts.
use Rattle.std.proofs.Common.{◌≡◌, ◌∙◌, refl, ap, subst, ℕ, ◌≤◌, Bool, true, false, List, Option, None, Some, pos, arith}
use Rattle.std.specs.Prelude.{FitsSigned, IsUtf8}
use Rattle.std.specs.Int.{w64}
use Rattle.kj_value.specs.Json.{Json, depth}
use Rattle.kj_value.specs.Reading.{Reads}
use Rattle.kj_value.specs.Sound.{IsSoundJson}
use Rattle.kj_value.specs.Text.{text_of}
use Rattle.kj_value.specs.declared.reading.TheConstants.{MAX_JSON_LEVELS}
use Rattle.http_wire.specs.Response.{HasPhrase}
use Rattle.http_wire.specs.laws.PhraseLaws.{phrase-400, phrase-404, phrase-409, phrase-410, phrase-422, phrase-502, phrase-503, phrase-507}
use Rattle.api_calls.specs.Refusal.{RefusalView, already_exists, bad_request, conflict, converter, expired, full, invalid, migration_running, no_memory, no_resource, not_found, still_stored}
use Rattle.api_calls.specs.Status.{code_of_refusal, message_of, reason_of, status, status_of}
use Rattle.wire_client.specs.Answers.{IsValue, has_details}
use Rattle.wire_client.specs.declared.buffer.TheConstants.{ANSWER_LEVELS}
use Rattle.far_laws.proofs.PageForms.{OneReading, TextReads}

pub refusal_phrase : (e : RefusalView) → HasPhrase (code_of_refusal e)
refusal_phrase (not_found name) = phrase-404
refusal_phrase no_resource = phrase-404
refusal_phrase (already_exists name) = phrase-409
refusal_phrase (conflict name newer) = phrase-409
refusal_phrase (invalid subject cause) = phrase-422
refusal_phrase (bad_request why) = phrase-400
refusal_phrase (expired floor) = phrase-410
refusal_phrase (full room) = phrase-507
refusal_phrase (migration_running name) = phrase-409
refusal_phrase (still_stored version key) = phrase-409
refusal_phrase converter = phrase-502
refusal_phrase no_memory = phrase-503

-- a refusal's code is no success
pub refusal_not_ok : (e : RefusalView) → code_of_refusal e ≡ 200 → ⊥
refusal_not_ok (not_found name) is = omega (arith, is)
refusal_not_ok no_resource is = omega (arith, is)
refusal_not_ok (already_exists name) is = omega (arith, is)
refusal_not_ok (conflict name newer) is = omega (arith, is)
refusal_not_ok (invalid subject cause) is = omega (arith, is)
refusal_not_ok (bad_request why) is = omega (arith, is)
refusal_not_ok (expired floor) is = omega (arith, is)
refusal_not_ok (full room) is = omega (arith, is)
refusal_not_ok (migration_running name) is = omega (arith, is)
refusal_not_ok (still_stored version key) is = omega (arith, is)
refusal_not_ok converter is = omega (arith, is)
refusal_not_ok no_memory is = omega (arith, is)

-- what has the code 404
pub data Missing : RefusalView → Type 0 where
  of_name : (name : List ℕ) → Missing (not_found name)
  of_resource : Missing no_resource

pub missing : (e : RefusalView) → code_of_refusal e ≡ 404 → Missing e
missing (not_found name) is = of_name name
missing no_resource is = of_resource
missing (already_exists name) is = absurd (omega (arith, is))
missing (conflict name newer) is = absurd (omega (arith, is))
missing (invalid subject cause) is = absurd (omega (arith, is))
missing (bad_request why) is = absurd (omega (arith, is))
missing (expired floor) is = absurd (omega (arith, is))
missing (full room) is = absurd (omega (arith, is))
missing (migration_running name) is = absurd (omega (arith, is))
missing (still_stored version key) is = absurd (omega (arith, is))
missing converter is = absurd (omega (arith, is))
missing no_memory is = absurd (omega (arith, is))

-- ---- a resource that isn't there has no details

fits : FitsSigned w64 (pos 404)
fits = omega arith

plain_sound : (message reason : List ℕ) → IsSoundJson (status 404 None message reason)
unfolding status
plain_sound message reason = (refl, tt, (refl, fits, (refl, tt, (refl, tt, (refl, tt, (refl, tt, (tt, tt, tt)))))))

plain_depth : (message reason : List ℕ) → depth (status 404 None message reason) ≤ MAX_JSON_LEVELS
unfolding status
plain_depth message reason = omega arith

no_details_in : (message reason : List ℕ) → has_details (Some (status 404 None message reason)) ≡ false
unfolding status
no_details_in message reason = refl

pub no_details : (plural group text : List ℕ) (v : Option Json) → TextReads → OneReading → text ≡ text_of (status_of no_resource plural group) → IsUtf8 text → IsValue text v
    → has_details v ≡ true → ⊥
no_details plural group text None text_reads one_reading is utf8 value has = cc
no_details plural group text (Some j) text_reads one_reading is utf8 value has =
    let plain : Json = status_of no_resource plural group in
    let message = message_of no_resource plural group in
    let reason = reason_of no_resource in
    let back = text_reads plain (plain_sound message reason) (plain_depth message reason) (subst (λ (b : List ℕ). IsUtf8 b) is utf8) in
    let same : j ≡ plain = one_reading (text_of plain) ANSWER_LEVELS (depth plain) j plain (subst (λ (b : List ℕ). Reads b ANSWER_LEVELS j) is value) back in
    let none : has_details (Some j) ≡ false = ap (λ (k : Json). has_details (Some k)) same ∙ no_details_in message reason in
    never (has_details (Some j)) has none
  where
    never : (b : Bool) → b ≡ true → b ≡ false → ⊥
    never true p q = cc
    never false p q = cc
