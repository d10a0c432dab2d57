-- What the one-thread server replies to each call at a list of items, and the item that the call enters.
use Rattle.std.specs.Prelude.{◌≡◌, ◌⊎◌, ℕ, List, [], ◌∷◌, ◌++◌, Option, None, Some, Result, Ok, Err, MatchOption, MatchBool, IsTrue, codes, nat_eq, if◌then◌else◌}
use Rattle.kj_value.specs.Json.{Json}
use Rattle.kj_value.specs.Text.{text_of}
use Rattle.kj_value.specs.declared.rule.Rule.TheVariants.{Forbidden, Unknown}
use Rattle.kube_meta.specs.Key.{KeyView}
use Rattle.kube_meta.specs.View.{ObjectView}
use Rattle.kube_meta.specs.Document.{document}
use Rattle.kube_meta.specs.Page.{Page}
use Rattle.kube_meta.specs.Plan.{named}
use Rattle.kube_meta.specs.declared.limits.Limits.{Limits}
use Rattle.kube_meta.specs.declared.limits.Condition.TheVariants.{Running}
use Rattle.api_calls.specs.declared.flags.Flags.{Flags}
use Rattle.api_calls.specs.Meaning.{Meaning, Request, Fault, bad_request, invalid, Weighs, stored_text}
use Rattle.api_calls.specs.Cause.{bad_token, bad_options}
use Rattle.api_calls.specs.Refusal.{RefusalView, SubjectView}
use Rattle.api_calls.specs.Refusal as refusal
use Rattle.api_calls.specs.Reply.{ReplyView}
use Rattle.api_calls.specs.Token.{token_text}
use Rattle.api_calls.specs.Uid.{uid}
use Rattle.api_calls.specs.Item.{Item}
use Rattle.api_calls.specs.Objects.{Stored, find, marked}
use Rattle.api_calls.specs.State.{State, served}
use Rattle.api_calls.specs.Legal.{key_of}
use Rattle.api_calls.specs.Values.{created_value, is_marked}
use Rattle.api_calls.specs.Ends.{WriteEnd, done, kept, same, unserved, present, gone, newer, forbidden, storage_moved, full, SetEnd, set, unchanged, TrimEnd, trimmed, untrimmed, unknown, still_stored, StartEnd, started, taken, busy, no_room, Decision, EndCause, bound, free}
use Rattle.api_calls.specs.Writes.{create_decision, ReplaceDecision, DeleteDecision}
use Rattle.api_calls.specs.Settings.{set_decision, trim_decision, start_decision}
use Rattle.api_calls.specs.Pages.{PageEnd, Place, page_decision}
use Rattle.api_calls.specs.Pages as page
use Rattle.api_calls.specs.Documents.{reply_text, numbered, object_list, deleted_status, AreOffered, group_document, migration_kind, migration_document, migration_list, definition_name}
use Rattle.api_calls.specs.Bodies.{IsServedDelete, RefusesStart, Starts}

-- an answer: a reply or a refusal
abbrev pub Answer : Type 0
Answer = Result ReplyView RefusalView

-- want of memory is free, and a fault of the tool has its cause; every other answer is bound to the definition
abbrev pub answer_cause : Type 0 → Answer → EndCause
answer_cause rose (Ok r) = bound
answer_cause rose (Err refusal.no_memory) = free (Unit {0})
answer_cause rose (Err refusal.converter) = free rose
answer_cause rose (Err e) = bound

abbrev pub said : ℕ → List ℕ → Answer
said code text = Ok (record { code = code; text = text })

-- the codes of RFC 9110
abbrev pub code_ok : ℕ
code_ok = 200

abbrev pub code_created : ℕ
code_created = 201

-- ---- objects

-- the text shows a hub value at a version, with its number and the number of its creation
abbrev pub IsShown : Meaning → ℕ → ℕ → ObjectView → ℕ → ℕ → List ℕ → Type 0
IsShown m boot v h number born text = (x : ObjectView) × (IsTrue m.honest → m.pair v h x) × (text ≡ reply_text boot number born x)

abbrev pub ShowsObject : Meaning → ℕ → ℕ → ℕ → ObjectView → ℕ → ℕ → Answer → Type 0
ShowsObject m boot code v h number born (Ok r) = (r.code ≡ code) × IsShown m boot v h number born r.text
ShowsObject m boot code v h number born (Err e) = ⊥

abbrev pub GetReply : Meaning → ℕ → State → ℕ → KeyView → Answer → Option Item → Type 0
GetReply m boot s v k a i =
    (i ≡ None) × MatchBool (served s.flags v)
    (MatchOption (find k s.objects) (a ≡ Err (refusal.not_found k.name)) (λ e. ShowsObject m boot code_ok v e.h e.number e.born a))
    (a ≡ Err refusal.no_resource)

-- the stored text of the object's form at the version at which it stands
abbrev pub IsRaw : Meaning → Stored → Answer → Type 0
IsRaw m e (Ok r) = (r.code ≡ code_ok) × (x : ObjectView) × (IsTrue m.honest → m.pair e.at e.h x) × (r.text ≡ stored_text x)
IsRaw m e (Err x) = ⊥

abbrev pub RawReply : Meaning → State → KeyView → Answer → Option Item → Type 0
RawReply m s k a i = (i ≡ None) × MatchOption (find k s.objects) (a ≡ Err (refusal.not_found k.name)) (λ e. IsRaw m e a)

-- ---- lists

-- documents show objects at a version, one after another
abbrev pub AreShown : Meaning → ℕ → ℕ → List Stored → List Json → Type 0
AreShown m boot v [] [] = Unit {0}
AreShown m boot v (e ∷ es) (j ∷ js) =
    ((x : ObjectView) × (IsTrue m.honest → m.pair v e.h x) × (j ≡ document (numbered boot e.number e.born x))) × AreShown m boot v es js
AreShown m boot v [] (j ∷ js) = ⊥
AreShown m boot v (e ∷ es) [] = ⊥

abbrev pub last_token : ℕ → List Stored → List ℕ
last_token number [] = []
last_token number (e ∷ []) = token_text number e.key
last_token number (e ∷ f ∷ es) = last_token number (f ∷ es)

-- the token of the last object shown; behind the last page there is none
abbrev pub next_token : Page Stored → List ℕ
next_token p = if nat_eq p.remaining 0 then [] else last_token p.number p.items

abbrev pub IsList : Meaning → ℕ → ℕ → Page Stored → Answer → Type 0
IsList m boot v p (Ok r) =
    (r.code ≡ code_ok) × (js : List Json) × AreShown m boot v p.items js × (r.text ≡ text_of (object_list m v js (next_token p) p.number p.remaining))
IsList m boot v p (Err e) = ⊥

abbrev pub Pages : Meaning → ℕ → ℕ → PageEnd → Answer → Type 0
Pages m boot v (page.shown p) a = IsList m boot v p a
Pages m boot v page.unserved a = a ≡ Err refusal.no_resource
Pages m boot v (page.ahead revision) a = a ≡ Err (refusal.bad_request bad_token)
Pages m boot v (page.expired floor) a = a ≡ Err (refusal.expired floor)
Pages m boot v page.no_memory a = ⊥

abbrev pub ListReply : Meaning → Limits → ℕ → List Item → ℕ → Option (List ℕ) → ℕ → Option Place → Answer → Option Item → Type 0
ListReply m limits boot log v ns limit token a i = (i ≡ None) × Pages m boot v (page_decision limits m log v ns limit token) a

-- ---- writes of objects

-- an object of the definition, of a name
abbrev pub object_subject : Meaning → List ℕ → SubjectView
object_subject m name = record { kind_group = m.kind ++ (codes "." ++ m.group); name = name }

abbrev pub definition_subject : Meaning → SubjectView
definition_subject m = record { kind_group = codes "CustomResourceDefinition.apiextensions.k8s.io"; name = definition_name m }

-- why a request has no hub value
abbrev pub fault_refusal : Meaning → Fault → RefusalView
fault_refusal m (bad_request why) = refusal.bad_request why
fault_refusal m (invalid name cause) = refusal.invalid (object_subject m name) cause

abbrev pub finalizer_added : Meaning → List ℕ → RefusalView
finalizer_added m name = refusal.invalid (object_subject m name) (record { field = codes "metadata.finalizers"; rule = Forbidden })

-- the answer to a write of the object of a name that ended so; where it shows a value, it is h at v, and the code of what was entered is this
abbrev pub Wrote : Meaning → ℕ → ℕ → ℕ → List ℕ → ObjectView → WriteEnd → Answer → Type 0
Wrote m boot code v name h (done number born) a = ShowsObject m boot code v h number born a
Wrote m boot code v name h (kept number born) a = ShowsObject m boot code_ok v h number born a
Wrote m boot code v name h (same number born) a = ShowsObject m boot code_ok v h number born a
Wrote m boot code v name h unserved a = a ≡ Err refusal.no_resource
Wrote m boot code v name h present a = a ≡ Err (refusal.already_exists name)
Wrote m boot code v name h gone a = a ≡ Err (refusal.not_found name)
Wrote m boot code v name h (newer number) a = a ≡ Err (refusal.conflict name number)
Wrote m boot code v name h forbidden a = a ≡ Err (finalizer_added m name)
Wrote m boot code v name h (full room) a = a ≡ Err (refusal.full room)
Wrote m boot code v name h (storage_moved now) a = ⊥

-- a request is refused by itself
abbrev pub IsRefusedRequest : Meaning → Request → Answer → Option Item → Type 0
IsRefusedRequest m r a i = (f : Fault) × m.refuses r f × (a ≡ Err (fault_refusal m f)) × (i ≡ None)

-- the weight that goes with a value
abbrev pub WeighsIt : Meaning → ObjectView → ℕ → Type 0
WeighsIt m h w = IsTrue m.honest → Weighs m h w

abbrev pub Creates : Meaning → Limits → ℕ → ℕ → State → ℕ → ObjectView → ℕ → Answer → Option Item → Type 0
Creates m limits boot n s v h w a i =
    let d = create_decision limits n s v (key_of h) h w in Wrote m boot code_created v h.meta.name h d.answer a × (i ≡ d.item)

-- a create, at the clock's stamp
abbrev pub CreateReply : Meaning → Limits → ℕ → ℕ → State → Request → List ℕ → Answer → Option Item → Type 0
CreateReply m limits boot n s r stamp a i =
    MatchBool (served s.flags r.version)
    (IsRefusedRequest m r a i
    ⊎ ((new : ObjectView) × (e : Option ℕ) × (w : ℕ) × m.admits r new e × WeighsIt m new w
    × Creates m limits boot n s r.version (created_value stamp new) w a i))
    ((a ≡ Err refusal.no_resource) × (i ≡ None))

-- a replace of the object of a key
abbrev pub ReplaceReply : Meaning → Limits → ℕ → ℕ → State → Request → KeyView → Answer → Option Item → Type 0
ReplaceReply m limits boot n s r k a i =
    MatchBool (served s.flags r.version)
    (IsRefusedRequest m r a i
    ⊎ ((new : ObjectView) × (over : ℕ) × (w : ℕ) × (h : ObjectView) × (d : Decision WriteEnd)
    × m.admits r new (Some over) × WeighsIt m new w
    × ReplaceDecision m limits n s r.version k over new w h d × Wrote m boot code_ok r.version k.name h d.answer a × (i ≡ d.item)))
    ((a ≡ Err refusal.no_resource) × (i ≡ None))

-- the Status of a delete, or the object that stays with a deletion stamp
abbrev pub Deleted : Meaning → ℕ → ℕ → KeyView → ObjectView → WriteEnd → Answer → Type 0
Deleted m boot v k h (done number born) a = a ≡ said code_ok (text_of (deleted_status m k.name (uid boot born)))
Deleted m boot v k h e a = Wrote m boot code_ok v k.name h e a

-- the value of an object that stays with a deletion stamp
abbrev pub kept_value : List ℕ → ObjectView → ObjectView
kept_value stamp old = if is_marked old then old else marked stamp old

abbrev pub Deletes : Meaning → ℕ → ℕ → State → ℕ → KeyView → List ℕ → Answer → Option Item → Type 0
Deletes m boot n s v k stamp a i =
    (old : ObjectView) × (d : Decision WriteEnd) × DeleteDecision m n s v k stamp old d
    × Deleted m boot v k (kept_value stamp old) d.answer a × (i ≡ d.item)

-- a delete of the object of a key, at the clock's stamp
abbrev pub DeleteReply : Meaning → ℕ → ℕ → State → ℕ → List ℕ → KeyView → List ℕ → Answer → Option Item → Type 0
DeleteReply m boot n s v body k stamp a i =
    MatchBool (served s.flags v)
    ((IsServedDelete body × Deletes m boot n s v k stamp a i)
    ⊎ ((IsServedDelete body → ⊥) × (a ≡ Err (refusal.bad_request bad_options)) × (i ≡ None)))
    ((a ≡ Err refusal.no_resource) × (i ≡ None))

-- ---- the group and the definition

-- the APIGroup with the versions that are served
abbrev pub GroupReply : Meaning → State → Answer → Option Item → Type 0
GroupReply m s a i =
    ((v : ℕ) × (vs : List ℕ) × AreOffered m s.flags (v ∷ vs) × (a ≡ said code_ok (text_of (group_document m v vs)))) × (i ≡ None)

abbrev pub CrdReply : Meaning → State → Answer → Option Item → Type 0
CrdReply m s a i = (a ≡ said code_ok (m.shown s.flags s.stored)) × (i ≡ None)

-- why a body isn't taken for the definition
abbrev pub body_refusal : SubjectView → Fault → RefusalView
body_refusal subject (bad_request why) = refusal.bad_request why
body_refusal subject (invalid name cause) = refusal.invalid subject cause

abbrev pub IsBadBody : (Fault → Type 0) → SubjectView → Answer → Option Item → Type 0
IsBadBody refuses subject a i = (f : Fault) × refuses f × (a ≡ Err (body_refusal subject f)) × (i ≡ None)

abbrev pub set_answer : Meaning → Flags → SetEnd → Answer
set_answer m f (set stored) = said code_ok (m.shown f stored)
set_answer m f (unchanged stored) = said code_ok (m.shown f stored)

abbrev pub SetReply : Meaning → State → List ℕ → Answer → Option Item → Type 0
SetReply m s body a i =
    IsBadBody (m.refuses_flags body) (definition_subject m) a i
    ⊎ ((f : Flags) × m.sets body f × (a ≡ set_answer m f (set_decision s f).answer) × (i ≡ (set_decision s f).item))

abbrev pub stored_versions : List ℕ
stored_versions = codes "status.storedVersions"

abbrev pub trim_answer : Meaning → TrimEnd → Answer
trim_answer m (trimmed f stored) = said code_ok (m.shown f stored)
trim_answer m (untrimmed f stored) = said code_ok (m.shown f stored)
trim_answer m (unknown v) = Err (refusal.invalid (definition_subject m) (record { field = stored_versions; rule = Unknown }))
trim_answer m (still_stored v k) = Err (refusal.still_stored (m.name v) k)

abbrev pub TrimReply : Meaning → State → List ℕ → Answer → Option Item → Type 0
TrimReply m s body a i =
    IsBadBody (m.refuses_keep body) (definition_subject m) a i
    ⊎ ((keep : List ℕ) × m.keeps body keep × (a ≡ trim_answer m (trim_decision s keep).answer) × (i ≡ (trim_decision s keep).item))

-- ---- migrations

abbrev pub start_answer : Meaning → List ℕ → StartEnd → Answer
start_answer m name (started target) =
    said code_created (text_of (migration_document m (record { name = name; target = target; condition = Running })))
start_answer m name taken = Err (refusal.already_exists name)
start_answer m name (busy other) = Err (refusal.migration_running other)
start_answer m name (no_room room) = Err (refusal.full room)

-- why a body starts no migration
abbrev pub start_refusal : Fault → RefusalView
start_refusal (bad_request why) = refusal.bad_request why
start_refusal (invalid name cause) =
    refusal.invalid (record { kind_group = migration_kind ++ (codes ".storagemigration.k8s.io"); name = name }) cause

-- a start of a migration
abbrev pub StartReply : Meaning → Limits → State → List ℕ → Answer → Option Item → Type 0
StartReply m limits s body a i =
    ((f : Fault) × RefusesStart m body f × (a ≡ Err (start_refusal f)) × (i ≡ None))
    ⊎ ((name : List ℕ) × Starts m body name
    × (a ≡ start_answer m name (start_decision limits s name).answer) × (i ≡ (start_decision limits s name).item))

abbrev pub MigrationReply : Meaning → State → List ℕ → Answer → Option Item → Type 0
MigrationReply m s name a i =
    (i ≡ None) × MatchOption (named name s.migrations) (a ≡ Err (refusal.not_found name)) (λ q. a ≡ said code_ok (text_of (migration_document m q)))

abbrev pub MigrationsReply : Meaning → State → Answer → Option Item → Type 0
MigrationsReply m s a i = (a ≡ said code_ok (text_of (migration_list m s.migrations))) × (i ≡ None)
