-- Fields that are put one after another, bytes that are added one after another, and how deep a Status is.
use Rattle.std.proofs.Common.{◌≡◌, ℕ, zero, suc, ◌≤◌, ◌+◌, List, [], ◌∷◌, ◌++◌, length, refl, ap, ◌∙◌, arith, lit≤, Option, Some, None, length-append}
use Rattle.uuid.specs.Text.{by_index, hyphenated_text}
use Rattle.std.specs.Prelude.{pos, codes}
use Rattle.std.specs.Fmt.{decimal, digits}
use Rattle.kj_value.specs.Text.{text_of}
use Rattle.api_calls.specs.Refusal.{RefusalView, not_found, no_resource, already_exists, conflict, invalid, bad_request, expired, full, migration_running, still_stored, converter, no_memory}
use Rattle.kj_value.specs.Json.{Json, whole, text, object, members_of, no_members, depth}
use Rattle.kj_value.specs.Fields.{Pairs, with_field}
use Rattle.api_calls.specs.Status.{status, status_of, reason_of, message_of, details, cause_list, with_given}

pub put_next : (before after made : Pairs) (name : List ℕ) (v w : Json) → after ≡ with_field name v before → v ≡ w → before ≡ made → after ≡ with_field name w made
put_next before after made name v w e f g = rw (e, f, g) refl

pub given_next : (before after made : Pairs) (name : List ℕ) (v : Option Json) → after ≡ with_given name v before → before ≡ made → after ≡ with_given name v made
given_next before after made name v e g = rw (e, g) refl

pub added_next : (before after made piece added : List ℕ) → after ≡ before ++ piece → piece ≡ added → before ≡ made → after ≡ made ++ added
added_next before after made piece added e f g = rw (e, f, g) refl

-- the fields of a Status, as they are put one after another
abbrev status_made : ℕ → Option Json → List ℕ → List ℕ → Pairs
status_made code given message reason =
    with_field (codes "status") (text (codes "Failure"))
    (with_field (codes "reason") (text reason)
    (with_field (codes "metadata") (object no_members)
    (with_field (codes "message") (text message)
    (with_field (codes "kind") (text (codes "Status"))
    (with_given (codes "details") given
    (with_field (codes "code") (whole (pos code))
    (with_field (codes "apiVersion") (text (codes "v1")) [])))))))

pub status_fields : (fields : Pairs) (code : ℕ) (given : Option Json) (message reason : List ℕ) → fields ≡ status_made code given message reason → object (members_of fields) ≡ status code given message reason
unfolding status
status_fields fields code None message reason e = ap (λ (es : Pairs). object (members_of es)) e
status_fields fields code (Some j) message reason e = ap (λ (es : Pairs). object (members_of es)) e

-- the fields of details
abbrev details_made : Option Json → List ℕ → List ℕ → List ℕ → Pairs
details_made causes group kind name =
    with_field (codes "name") (text name)
    (with_field (codes "kind") (text kind)
    (with_field (codes "group") (text group)
    (with_given (codes "causes") causes [])))

pub details_fields : (fields : Pairs) (causes : Option Json) (group kind name : List ℕ) → fields ≡ details_made causes group kind name → object (members_of fields) ≡ details causes group kind name
unfolding details
details_fields fields None group kind name e = ap (λ (es : Pairs). object (members_of es)) e
details_fields fields (Some j) group kind name e = ap (λ (es : Pairs). object (members_of es)) e

length-by_index : (n : ℕ) (f : ℕ → ℕ) → length (by_index n f) ≡ n
unfolding by_index
length-by_index zero f = refl
length-by_index (suc n) f = length-append (by_index n f) (f n ∷ []) ∙ ap (λ (k : ℕ). k + 1) (length-by_index n f) ∙ omega arith

pub length-hyphenated_text : (letter : ℕ) (bytes : List ℕ) → length (hyphenated_text letter bytes) ≡ 36
length-hyphenated_text letter bytes = length-by_index 36 _

pub depth-status_of : (r : RefusalView) (plural group : List ℕ) → depth (status_of r plural group) ≤ 100
unfolding status details cause_list
depth-status_of (not_found name) plural group = lit≤ tt
depth-status_of no_resource plural group = lit≤ tt
depth-status_of (already_exists name) plural group = lit≤ tt
depth-status_of (conflict name newer) plural group = lit≤ tt
depth-status_of (invalid subject cause) plural group = lit≤ tt
depth-status_of (bad_request why) plural group = lit≤ tt
depth-status_of (expired floor) plural group = lit≤ tt
depth-status_of (full room) plural group = lit≤ tt
depth-status_of (migration_running name) plural group = lit≤ tt
depth-status_of (still_stored version key) plural group = lit≤ tt
depth-status_of converter plural group = lit≤ tt
depth-status_of no_memory plural group = lit≤ tt

-- the digits of 503
decimal-503 : decimal 503 ≡ codes "503"
unfolding digits
decimal-503 = refl

pub text_of-no_memory : (plural group : List ℕ) → codes "{\"apiVersion\":\"v1\",\"code\":503,\"kind\":\"Status\",\"message\":\"out of memory\",\"metadata\":{},\"reason\":\"ServiceUnavailable\",\"status\":\"Failure\"}" ≡ text_of (status_of no_memory plural group)
unfolding status reason_of message_of
text_of-no_memory plural group = rw decimal-503 refl
