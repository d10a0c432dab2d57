-- How many bytes the refusals of a migration's calls have.
use Rattle.std.proofs.Common.{◌≡◌, ◌∙◌, ap, ℕ, ◌+◌, ◌*◌, ◌<◌, ◌≤◌, ◌^◌, List, [], ◌∷◌, ◌++◌, length, length-append, append-nil, Option, None, Some, pos, codes, decimal, arith}
use Rattle.std.proofs.lemmas.Fmt.{length-decimal-le}
use Rattle.kj_value.specs.Fields.{Pairs}
use Rattle.kj_value.specs.Json.{Json, members_of, no_members, object, text, whole}
use Rattle.kj_value.specs.Text.{text_of}
use Rattle.kube_meta.specs.Document.{optional}
use Rattle.api_calls.specs.Refusal.{conflict, expired, no_memory, no_resource, not_found}
use Rattle.api_calls.specs.Status.{cause_list, details, message_of, reason_of, status, status_of, subject}
use Rattle.run_laws.proofs.tallies.Sizes.{decimal_few, length-object, quoted_few, size, size-append, size-cons}

-- ---- a Status

code_few : (c : ℕ) → c < 1000 → length (text_of (whole (pos c))) ≤ 3
code_few c few = length-decimal-le 3 c (omega arith) (omega (arith, few)) (omega (arith, few))

status_few : (c : ℕ) (ds : Option Json) (d most : ℕ) (message reason : List ℕ) → c < 1000 → size (optional (codes "details") ds) ≤ d → length message ≤ most → length reason ≤ 30
    → length (text_of (status c ds message reason)) ≤ 600 + d + 6 * most
unfolding status
status_few c ds d most message reason few detailed short brief =
    let tail : Pairs =
    (codes "kind", text (codes "Status"))
    ∷ (codes "message", text message)
    ∷ (codes "metadata", object no_members)
    ∷ (codes "reason", text reason)
    ∷ (codes "status", text (codes "Failure"))
    ∷ [] in
    let digits = code_few c few in
    let said = quoted_few message in
    let why = quoted_few reason in
    let s7 = size-cons (codes "status") (text (codes "Failure")) [] in
    let s6 = size-cons (codes "reason") (text reason) ((codes "status", text (codes "Failure")) ∷ []) in
    let s5 = size-cons (codes "metadata") (object no_members) ((codes "reason", text reason) ∷ (codes "status", text (codes "Failure")) ∷ []) in
    let s4 = size-cons (codes "message") (text message) ((codes "metadata", object no_members) ∷ (codes "reason", text reason) ∷ (codes "status", text (codes "Failure")) ∷ []) in
    let s3 = size-cons (codes "kind") (text (codes "Status")) ((codes "message", text message) ∷ (codes "metadata", object no_members) ∷ (codes "reason", text reason) ∷ (codes "status", text (codes "Failure")) ∷ []) in
    let s2 = size-append (optional (codes "details") ds) tail in
    let s1 = size-cons (codes "code") (whole (pos c)) (optional (codes "details") ds ++ tail) in
    let s0 = size-cons (codes "apiVersion") (text (codes "v1")) ((codes "code", whole (pos c)) ∷ (optional (codes "details") ds ++ tail)) in
    let whole_of = length-object ((codes "apiVersion", text (codes "v1")) ∷ (codes "code", whole (pos c)) ∷ (optional (codes "details") ds ++ tail)) in
    omega (arith, digits, said, why, s7, s6, s5, s4, s3, s2, s1, s0, whole_of, detailed, short, brief)

-- ---- details

-- the three texts of details, behind the causes
named_few : (group kind name : List ℕ) → length group ≤ 253 → length kind ≤ 253 → length name ≤ 253
    → size ((codes "group", text group) ∷ (codes "kind", text kind) ∷ (codes "name", text name) ∷ []) ≤ 5_000
named_few group kind name g k n =
    let s2 = size-cons (codes "name") (text name) [] in
    let s1 = size-cons (codes "kind") (text kind) ((codes "name", text name) ∷ []) in
    let s0 = size-cons (codes "group") (text group) ((codes "kind", text kind) ∷ (codes "name", text name) ∷ []) in
    let a = quoted_few group in
    let b = quoted_few kind in
    let c = quoted_few name in
    omega (arith, s2, s1, s0, a, b, c, g, k, n)

plain_few : (group kind name : List ℕ) → length group ≤ 253 → length kind ≤ 253 → length name ≤ 253 → size (optional (codes "details") (Some (details None group kind name))) ≤ 6_000
unfolding details
plain_few group kind name g k n =
    let inner = named_few group kind name g k n in
    let o = length-object ((codes "group", text group) ∷ (codes "kind", text kind) ∷ (codes "name", text name) ∷ []) in
    let s = size-cons (codes "details") (object (members_of ((codes "group", text group) ∷ (codes "kind", text kind) ∷ (codes "name", text name) ∷ []))) [] in
    omega (arith, inner, o, s)

cause_few : (at message reason : List ℕ) → length at ≤ 30 → length message ≤ 20 → length reason ≤ 30 → length (text_of (cause_list at message reason)) ≤ 1_000
unfolding cause_list
cause_few at message reason a m r =
    let s2 = size-cons (codes "reason") (text reason) [] in
    let s1 = size-cons (codes "message") (text message) ((codes "reason", text reason) ∷ []) in
    let s0 = size-cons (codes "field") (text at) ((codes "message", text message) ∷ (codes "reason", text reason) ∷ []) in
    let o = length-object ((codes "field", text at) ∷ (codes "message", text message) ∷ (codes "reason", text reason) ∷ []) in
    let x = quoted_few at in
    let y = quoted_few message in
    let z = quoted_few reason in
    let one : Json = object (members_of ((codes "field", text at) ∷ (codes "message", text message) ∷ (codes "reason", text reason) ∷ [])) in
    let w : length ((text_of one ++ []) ++ 93 ∷ []) ≡ length (text_of one) + 1 = ap (λ (t : List ℕ). length (t ++ 93 ∷ [])) (append-nil (text_of one)) ∙ length-append (text_of one) (93 ∷ []) in
    omega (arith, s2, s1, s0, o, x, y, z, w, a, m, r)

changed_few : (group kind name number : List ℕ) → length group ≤ 253 → length kind ≤ 253 → length name ≤ 253 → length number ≤ 20
    → size (optional (codes "details") (Some (details (Some (cause_list (codes "metadata.resourceVersion") number (codes "ResourceVersionChanged"))) group kind name))) ≤ 8_000
unfolding details
changed_few group kind name number g k n few =
    let causes : Json = cause_list (codes "metadata.resourceVersion") number (codes "ResourceVersionChanged") in
    let inner = named_few group kind name g k n in
    let cause = cause_few (codes "metadata.resourceVersion") number (codes "ResourceVersionChanged") (omega arith) few (omega arith) in
    let s0 = size-cons (codes "causes") causes ((codes "group", text group) ∷ (codes "kind", text kind) ∷ (codes "name", text name) ∷ []) in
    let o = length-object ((codes "causes", causes) ∷ (codes "group", text group) ∷ (codes "kind", text kind) ∷ (codes "name", text name) ∷ []) in
    let s = size-cons (codes "details") (object (members_of ((codes "causes", causes) ∷ (codes "group", text group) ∷ (codes "kind", text kind) ∷ (codes "name", text name) ∷ []))) [] in
    omega (arith, inner, cause, s0, o, s)

-- ---- the refusals

abbrev pub most_status : ℕ
most_status = 100_000

subject_few : (plural group name : List ℕ) → length plural ≤ 253 → length group ≤ 253 → length name ≤ 253 → length (subject plural group name) ≤ 800
unfolding subject
subject_few plural group name p g n = simp length-append (omega (arith, p, g, n))

pub unserved_few : (plural group : List ℕ) → length (text_of (status_of no_resource plural group)) ≤ most_status
unfolding message_of reason_of
unserved_few plural group =
    let few = status_few 404 None 0 60 (message_of no_resource plural group) (reason_of no_resource) (omega arith) (omega arith) (omega arith) (omega arith) in
    omega (arith, few)

pub memory_few : (plural group : List ℕ) → length (text_of (status_of no_memory plural group)) ≤ most_status
unfolding message_of reason_of
memory_few plural group =
    let few = status_few 503 None 0 60 (message_of no_memory plural group) (reason_of no_memory) (omega arith) (omega arith) (omega arith) (omega arith) in
    omega (arith, few)

pub expired_few : (floor : ℕ) (plural group : List ℕ) → floor < 2 ^ 64 → length (text_of (status_of (expired floor) plural group)) ≤ most_status
unfolding message_of reason_of
expired_few floor plural group small =
    let digits = decimal_few floor small in
    let long = length-append (codes "the continue token is older than resource version ") (decimal floor) in
    let few = status_few 410 None 0 80 (message_of (expired floor) plural group) (reason_of (expired floor)) (omega arith) (omega arith) (omega (arith, digits, long)) (omega arith) in
    omega (arith, few)

pub missing_few : (name plural group : List ℕ) → length plural ≤ 253 → length group ≤ 253 → length name ≤ 253 → length (text_of (status_of (not_found name) plural group)) ≤ most_status
unfolding message_of reason_of
missing_few name plural group p g n =
    let who = subject_few plural group name p g n in
    let long = length-append (subject plural group name) (codes " not found") in
    let ds = plain_few group plural name g p n in
    let few = status_few 404 (Some (details None group plural name)) 6_000 900 (message_of (not_found name) plural group) (reason_of (not_found name)) (omega arith) ds (omega (arith, who, long)) (omega arith) in
    omega (arith, few)

pub conflict_few : (name : List ℕ) (newer : ℕ) (plural group : List ℕ) → length plural ≤ 253 → length group ≤ 253 → length name ≤ 253 → newer < 2 ^ 64
    → length (text_of (status_of (conflict name newer) plural group)) ≤ most_status
unfolding message_of reason_of
conflict_few name newer plural group p g n small =
    let digits = decimal_few newer small in
    let who = subject_few plural group name p g n in
    let end = codes ": the object has been modified; please apply your changes to the latest version and try again" in
    let long = length-append (subject plural group name) end in
    let front = length-append (codes "Operation cannot be fulfilled on ") (subject plural group name ++ end) in
    let ds = changed_few group plural name (decimal newer) g p n digits in
    let few = status_few 409 (Some (details (Some (cause_list (codes "metadata.resourceVersion") (decimal newer) (codes "ResourceVersionChanged"))) group plural name)) 8_000 1_000
    (message_of (conflict name newer) plural group) (reason_of (conflict name newer)) (omega arith) ds (omega (arith, who, long, front)) (omega arith) in
    omega (arith, few)
