-- The Kubernetes Status of kind Failure that tells a refusal (API conventions, "Response Status Kind").
use Rattle.std.specs.Prelude.{ℕ, pos, List, [], ◌∷◌, ◌++◌, ◌==◌, Option, Some, None, codes, decimal}
use Rattle.std.specs.List.{before_first, after_first}
use Rattle.kj_value.specs.Json.{Json, whole, text, list, object, items_of, no_members, members_of}
use Rattle.kj_value.specs.Fields.{Pairs, with_field}
use Rattle.kj_value.specs.Rule.{rule_word}
use Rattle.kube_meta.specs.Document.{optional}
use Rattle.kube_meta.specs.Key.{KeyView}
use Rattle.kube_meta.specs.Names.{dot}
use Rattle.kube_meta.specs.declared.limits.RoomKind.{RoomKind}
use Rattle.kube_meta.specs.declared.limits.RoomKind.TheVariants.{Objects, Chunks, Migrations}
use Rattle.api_calls.specs.Cause.{WhyView, bad_query, why_word}
use Rattle.api_calls.specs.Refusal.{RefusalView, SubjectView, not_found, no_resource, already_exists, conflict, invalid, bad_request, expired, full, migration_running, still_stored, converter, no_memory}

-- the status codes of RFC 9110
abbrev pub code_bad_request : ℕ
code_bad_request = 400

abbrev pub code_not_found : ℕ
code_not_found = 404

abbrev pub code_conflict : ℕ
code_conflict = 409

abbrev pub code_gone : ℕ
code_gone = 410

abbrev pub code_unprocessable_content : ℕ
code_unprocessable_content = 422

abbrev pub code_bad_gateway : ℕ
code_bad_gateway = 502

abbrev pub code_service_unavailable : ℕ
code_service_unavailable = 503

-- of RFC 4918
abbrev pub code_insufficient_storage : ℕ
code_insufficient_storage = 507

-- a Status of a failure; without details the name isn't there
unfoldable pub status : ℕ → Option Json → List ℕ → List ℕ → Json
status code details message reason = object (members_of (
    (codes "apiVersion", text (codes "v1"))
    ∷ (codes "code", whole (pos code))
    ∷ optional (codes "details") details
    ++ (codes "kind", text (codes "Status"))
    ∷ (codes "message", text message)
    ∷ (codes "metadata", object no_members)
    ∷ (codes "reason", text reason)
    ∷ (codes "status", text (codes "Failure"))
    ∷ []))

abbrev pub code_of_refusal : RefusalView → ℕ
code_of_refusal (not_found name) = code_not_found
code_of_refusal no_resource = code_not_found
code_of_refusal (already_exists name) = code_conflict
code_of_refusal (conflict name newer) = code_conflict
code_of_refusal (invalid subject cause) = code_unprocessable_content
code_of_refusal (bad_request why) = code_bad_request
code_of_refusal (expired floor) = code_gone
code_of_refusal (full room) = code_insufficient_storage
code_of_refusal (migration_running name) = code_conflict
code_of_refusal (still_stored version key) = code_conflict
code_of_refusal converter = code_bad_gateway
code_of_refusal no_memory = code_service_unavailable

unfoldable pub reason_of : RefusalView → List ℕ
reason_of (not_found name) = codes "NotFound"
reason_of no_resource = codes "NotFound"
reason_of (already_exists name) = codes "AlreadyExists"
reason_of (conflict name newer) = codes "Conflict"
reason_of (invalid subject cause) = codes "Invalid"
reason_of (bad_request why) = codes "BadRequest"
reason_of (expired floor) = codes "Expired"
reason_of (full room) = codes "InsufficientStorage"
reason_of (migration_running name) = codes "MigrationRunning"
reason_of (still_stored version key) = codes "StillStored"
reason_of converter = codes "ConverterFailed"
reason_of no_memory = codes "ServiceUnavailable"

-- ---- messages

-- an object of a resource: `PLURAL.GROUP "NAME"`
unfoldable pub subject : List ℕ → List ℕ → List ℕ → List ℕ
subject plural group name = plural ++ codes "." ++ group ++ codes " \"" ++ name ++ codes "\""

-- the name of a parameter that isn't served stands behind the word
abbrev pub parameter_text : WhyView → List ℕ
parameter_text (bad_query parameter) = codes " " ++ parameter
parameter_text _ = []

unfoldable pub room_word : RoomKind → List ℕ
room_word Objects = codes "objects"
room_word Chunks = codes "chunks"
room_word Migrations = codes "migrations"

-- what a version is still stored by
unfoldable pub storing_text : List ℕ → Option KeyView → List ℕ
storing_text version None = codes "version \"" ++ version ++ codes "\" is the storage version"
storing_text version (Some key) = codes "version \"" ++ version ++ codes "\" is still stored by " ++ key.ns ++ codes "/" ++ key.name

unfoldable pub message_of : RefusalView → List ℕ → List ℕ → List ℕ
message_of (not_found name) plural group = subject plural group name ++ codes " not found"
message_of no_resource plural group = codes "the server could not find the requested resource"
message_of (already_exists name) plural group = subject plural group name ++ codes " already exists"
message_of (conflict name newer) plural group =
    codes "Operation cannot be fulfilled on " ++ subject plural group name ++ codes ": the object has been modified; please apply your changes to the latest version and try again"
message_of (invalid s cause) plural group =
    s.kind_group ++ codes " \"" ++ s.name ++ codes "\" is invalid: " ++ cause.field ++ codes ": " ++ rule_word cause.rule
message_of (bad_request why) plural group = codes "bad request: " ++ why_word why ++ parameter_text why
message_of (expired floor) plural group = codes "the continue token is older than resource version " ++ decimal floor
message_of (full room) plural group =
    codes "no room for " ++ room_word room.what ++ codes ": need " ++ decimal room.need ++ codes ", free " ++ decimal room.free
message_of (migration_running name) plural group = codes "migration \"" ++ name ++ codes "\" is running"
message_of (still_stored version key) plural group = storing_text version key
message_of converter plural group = codes "the converter failed"
message_of no_memory plural group = codes "out of memory"

-- ---- details

-- which object of which kind or resource, behind what is wrong with it
unfoldable pub details : Option Json → List ℕ → List ℕ → List ℕ → Json
details causes group kind name = object (members_of (
    optional (codes "causes") causes
    ++ (codes "group", text group)
    ∷ (codes "kind", text kind)
    ∷ (codes "name", text name)
    ∷ []))

-- the list of the one cause: a StatusCause
unfoldable pub cause_list : List ℕ → List ℕ → List ℕ → Json
cause_list at message reason = list (items_of (object (members_of (
    (codes "field", text at)
    ∷ (codes "message", text message)
    ∷ (codes "reason", text reason)
    ∷ [])) ∷ []))

-- the kind stands before the first point, and the group behind it
abbrev pub kind_in : SubjectView → List ℕ
kind_in s = before_first (λ b. b == dot) s.kind_group

abbrev pub group_in : SubjectView → List ℕ
group_in s = after_first (λ b. b == dot) s.kind_group

abbrev pub details_of : RefusalView → List ℕ → List ℕ → Option Json
details_of (not_found name) plural group = Some (details None group plural name)
details_of no_resource plural group = None
details_of (already_exists name) plural group = Some (details None group plural name)
details_of (conflict name newer) plural group =
    Some (details (Some (cause_list (codes "metadata.resourceVersion") (decimal newer) (codes "ResourceVersionChanged"))) group plural name)
details_of (invalid s cause) plural group =
    Some (details (Some (cause_list cause.field (rule_word cause.rule) (codes "FieldValueInvalid"))) (group_in s) (kind_in s) s.name)
details_of (bad_request why) plural group = None
details_of (expired floor) plural group = None
details_of (full room) plural group = None
details_of (migration_running name) plural group = None
details_of (still_stored version key) plural group = None
details_of converter plural group = None
details_of no_memory plural group = None

-- the Status of a refusal about the resource of this plural name and this group
abbrev pub status_of : RefusalView → List ℕ → List ℕ → Json
status_of r plural group = status (code_of_refusal r) (details_of r plural group) (message_of r plural group) (reason_of r)

-- ---- for private clauses

-- with the field, where there is a value
abbrev pub with_given : List ℕ → Option Json → Pairs → Pairs
with_given name None es = es
with_given name (Some j) es = with_field name j es
