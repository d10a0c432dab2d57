-- What isn't found is told with details.
use Rattle.std.proofs.Common.{◌≡◌, ◌∙◌, refl, ap, ℕ, ◌≤◌, true, List, Option, None, Some, pos, arith}
use Rattle.std.specs.Prelude.{FitsSigned, IsUtf8}
use Rattle.std.specs.Int.{w64}
use Rattle.kj_value.specs.Json.{Json, depth}
use Rattle.kj_value.specs.Sound.{IsSoundJson}
use Rattle.kj_value.specs.Text.{text_of}
use Rattle.api_calls.specs.Refusal.{not_found}
use Rattle.api_calls.specs.Status.{details, message_of, reason_of, status, status_of}
use Rattle.wire_client.specs.Answers.{IsValue, has_details}
use Rattle.wire_client.specs.declared.buffer.TheConstants.{ANSWER_LEVELS}
use Rattle.far_laws.proofs.PageForms.{OneReading, TextReads}
use Rattle.run_laws.proofs.tallies.Said.{value_is}

fits : FitsSigned w64 (pos 404)
fits = omega arith

named_sound : (group plural name message reason : List ℕ) → IsSoundJson (status 404 (Some (details None group plural name)) message reason)
unfolding status details
named_sound group plural name message reason =
    (refl, tt, (refl, fits, (refl, (refl, tt, (refl, tt, (tt, tt, tt))), (refl, tt, (refl, tt, (refl, tt, (refl, tt, (tt, tt, tt))))))))

named_depth : (group plural name message reason : List ℕ) → depth (status 404 (Some (details None group plural name)) message reason) ≤ ANSWER_LEVELS
unfolding status details
named_depth group plural name message reason = omega arith

details_in : (group plural name message reason : List ℕ) → has_details (Some (status 404 (Some (details None group plural name)) message reason)) ≡ true
unfolding status details
details_in group plural name message reason = refl

pub missing_details : (plural group name text : List ℕ) (v : Option Json) → TextReads → OneReading → text ≡ text_of (status_of (not_found name) plural group) → IsUtf8 text → IsValue text v
    → has_details v ≡ true
missing_details plural group name text v text_reads one_reading is utf8 value =
    let message = message_of (not_found name) plural group in
    let reason = reason_of (not_found name) in
    ap has_details
    (value_is (status_of (not_found name) plural group) text v text_reads one_reading (named_sound group plural name message reason) (named_depth group plural name message reason) utf8 is value)
    ∙ details_in group plural name message reason
