-- A reply is a success, and a refusal enters nothing; a refusal for the converter comes only where its tool failed.
use Rattle.std.proofs.Common.{◌≡◌, ◌⊎◌, ◌+◌, arith, ℕ, Bool, true, false, List, Option, None, Some, Ok, Err, inl, inr, refl, sym, subst, ◌∙◌}
use Rattle.std.specs.Prelude.{MatchBool, MatchOption, filter, not, ◌&&◌, is_some, nat_eq, if◌then◌else◌}
use Rattle.std.specs.List.{list_all}
use Rattle.kube_meta.specs.Key.{KeyView}
use Rattle.kube_meta.specs.Page.{Page}
use Rattle.kube_meta.specs.Plan.{Migration, named, running}
use Rattle.kube_meta.specs.View.{ObjectView}
use Rattle.kube_meta.specs.declared.limits.Limits.{Limits}
use Rattle.kube_meta.specs.declared.limits.Room.{Room}
use Rattle.api_calls.specs.Calls.{Server, Call, get, list, create, replace, delete, group, crd, set_versions, trim, start, migration, migrations, raw, work, give_back, Told, answered, worked, failed, gave_back, Decides, Comes, decided, wants_memory, not_converted, moved, lost, Failure, Fails, failure_refusal}
use Rattle.api_calls.specs.Calls as calls
use Rattle.api_calls.specs.Ends.{WriteEnd, done, kept, same, unserved, present, gone, newer, forbidden, storage_moved, full, Decision, says, enters}
use Rattle.api_calls.specs.Ends as ends
use Rattle.api_calls.specs.Item.{Item, entry, Create, Replace, Trim}
use Rattle.api_calls.specs.Meaning.{Meaning, Request, Fault}
use Rattle.api_calls.specs.Meaning as fault
use Rattle.api_calls.specs.Objects.{Stored, find}
use Rattle.api_calls.specs.Pages.{PageEnd, Place, page_decision}
use Rattle.api_calls.specs.Pages as page
use Rattle.api_calls.specs.Refusal.{RefusalView, SubjectView}
use Rattle.api_calls.specs.Refusal as refusal
use Rattle.api_calls.specs.Replies.{Answer, ShowsObject, IsRaw, IsList, Pages, Wrote, Deleted, IsRefusedRequest, GetReply, RawReply, ListReply, CreateReply, ReplaceReply, DeleteReply, SetReply, TrimReply, StartReply, MigrationReply, GroupReply, CrdReply, MigrationsReply, set_answer, trim_answer, start_answer, fault_refusal, body_refusal, start_refusal, definition_subject, code_ok, code_created}
use Rattle.api_calls.specs.Settings.{trim_known, trim_free, first_unknown, first_held, start_idle, start_room, same_flags}
use Rattle.api_calls.specs.Room.{lacking, lacking_chunks, lacking_migrations}
use Rattle.api_calls.specs.State.{State, state, revision, served, has}
use Rattle.api_calls.specs.Status.{code_of_refusal, code_bad_gateway}
use Rattle.api_calls.specs.Values.{has_finalizer, is_marked, is_forbidden, is_release}
use Rattle.api_calls.specs.Writes.{with_room, create_decision, replaced, removed, ReplaceDecision, DeleteDecision}
use Rattle.api_calls.specs.declared.flags.Flags.{Flags}
use Rattle.request_replies.specs.Replies.{replied}
use Rattle.request_replies.specs.declared.about.About.{About}

abbrev pub IsSuccess : ℕ → Type 0
IsSuccess code = (code ≡ code_ok) ⊎ (code ≡ code_created)

ok-200 : IsSuccess code_ok
ok-200 = inl refl

ok-201 : IsSuccess code_created
ok-201 = inr refl

abbrev pub is_converter : RefusalView → Bool
is_converter (refusal.not_found name) = false
is_converter refusal.no_resource = false
is_converter (refusal.already_exists name) = false
is_converter (refusal.conflict name over) = false
is_converter (refusal.invalid subject cause) = false
is_converter (refusal.bad_request why) = false
is_converter (refusal.expired floor) = false
is_converter (refusal.full room) = false
is_converter (refusal.migration_running name) = false
is_converter (refusal.still_stored version key) = false
is_converter refusal.converter = true
is_converter refusal.no_memory = false

-- what is decided
abbrev Sound : Answer → Option Item → Type 0
Sound (Ok r) i = IsSuccess r.code
Sound (Err e) i = (i ≡ None) × (is_converter e ≡ false)

abbrev Coded : Answer → Type 0
Coded (Ok r) = IsSuccess r.code
Coded (Err e) = is_converter e ≡ false

none_sound : (a : Answer) (i : Option Item) → i ≡ None → Coded a → Sound a i
none_sound (Ok r) i none coded = coded
none_sound (Err e) i none coded = (none, coded)

sound_of : (a b : Answer) (i j : Option Item) → a ≡ b → i ≡ j → Sound b j → Sound a i
sound_of a b i j one two is = subst (λ (x : Answer). Sound x i) (sym one) (subst (λ (x : Option Item). Sound b x) (sym two) is)

coded_of : (a b : Answer) → a ≡ b → Coded b → Coded a
coded_of a b one is = subst (λ (x : Answer). Coded x) (sym one) is

refused_sound : (a : Answer) (e : RefusalView) (i : Option Item) → a ≡ Err e → i ≡ None → is_converter e ≡ false → Sound a i
refused_sound a e i one none other = sound_of a (Err e) i None one none (refl, other)

either_bool : (b : Bool) (A B C : Type 0) → (A → C) → (B → C) → MatchBool b A B → C
either_bool true A B C f g h = f h
either_bool false A B C f g h = g h

either_option : {X : Type 0} (o : Option X) (A : Type 0) (B : X → Type 0) (C : Type 0) → (A → C) → ((x : X) → B x → C) → MatchOption o A B → C
either_option None A B C f g h = f h
either_option (Some x) A B C f g h = g x h

-- ---- objects

shows_coded : (m : Meaning) (boot code v : ℕ) (h : ObjectView) (number born : ℕ) (a : Answer) → IsSuccess code → ShowsObject m boot code v h number born a → Coded a
shows_coded m boot code v h number born (Ok r) phrase shows = subst (λ (n : ℕ). IsSuccess n) (sym shows.0) phrase
shows_coded m boot code v h number born (Err e) phrase shows = absurd shows

shows_sound : (m : Meaning) (boot code v : ℕ) (h : ObjectView) (number born : ℕ) (a : Answer) (i : Option Item) → IsSuccess code → ShowsObject m boot code v h number born a → Sound a i
shows_sound m boot code v h number born (Ok r) i phrase shows = subst (λ (n : ℕ). IsSuccess n) (sym shows.0) phrase
shows_sound m boot code v h number born (Err e) i phrase shows = absurd shows

get_sound : (m : Meaning) (boot : ℕ) (s : State) (v : ℕ) (k : KeyView) (a : Answer) (i : Option Item) → GetReply m boot s v k a i → Sound a i
get_sound m boot s v k a i reply = none_sound a i reply.0
    (either_bool (served s.flags v) _ _ (Coded a)
    (either_option (find k s.objects) _ _ (Coded a) (λ e. coded_of a _ e refl) (λ x shows. shows_coded m boot code_ok v x.h x.number x.born a ok-200 shows))
    (λ e. coded_of a _ e refl) reply.1)

raw_coded : (m : Meaning) (e : Stored) (a : Answer) → IsRaw m e a → Coded a
raw_coded m e (Ok r) is = subst (λ (n : ℕ). IsSuccess n) (sym is.0) ok-200
raw_coded m e (Err x) is = absurd is

raw_sound : (m : Meaning) (s : State) (k : KeyView) (a : Answer) (i : Option Item) → RawReply m s k a i → Sound a i
raw_sound m s k a i reply = none_sound a i reply.0
    (either_option (find k s.objects) _ _ (Coded a) (λ e. coded_of a _ e refl) (λ x is. raw_coded m x a is) reply.1)

-- ---- lists

list_coded : (m : Meaning) (boot v : ℕ) (p : Page Stored) (a : Answer) → IsList m boot v p a → Coded a
list_coded m boot v p (Ok r) is = subst (λ (n : ℕ). IsSuccess n) (sym is.0) ok-200
list_coded m boot v p (Err e) is = absurd is

pages_coded : (m : Meaning) (boot v : ℕ) (end : PageEnd) (a : Answer) → Pages m boot v end a → Coded a
pages_coded m boot v (page.shown p) a is = list_coded m boot v p a is
pages_coded m boot v page.unserved a is = coded_of a _ is refl
pages_coded m boot v (page.ahead r) a is = coded_of a _ is refl
pages_coded m boot v (page.expired floor) a is = coded_of a _ is refl
pages_coded m boot v page.no_memory a is = absurd is

-- ---- writes of objects

abbrev Shows : WriteEnd → Type 0
Shows (done number born) = Unit {0}
Shows (kept number born) = Unit {0}
Shows (same number born) = Unit {0}
Shows unserved = ⊥
Shows present = ⊥
Shows gone = ⊥
Shows (newer number) = ⊥
Shows forbidden = ⊥
Shows (storage_moved now) = ⊥
Shows (full room) = ⊥

-- what is entered is shown
abbrev Neat : Decision WriteEnd → Type 0
Neat d = (d.item ≡ None) ⊎ Shows d.answer

wrote_coded : (m : Meaning) (boot code v : ℕ) (name : List ℕ) (h : ObjectView) (end : WriteEnd) (a : Answer) → IsSuccess code → Wrote m boot code v name h end a → Coded a
wrote_coded m boot code v name h (done number born) a phrase wrote = shows_coded m boot code v h number born a phrase wrote
wrote_coded m boot code v name h (kept number born) a phrase wrote = shows_coded m boot code_ok v h number born a ok-200 wrote
wrote_coded m boot code v name h (same number born) a phrase wrote = shows_coded m boot code_ok v h number born a ok-200 wrote
wrote_coded m boot code v name h unserved a phrase wrote = coded_of a _ wrote refl
wrote_coded m boot code v name h present a phrase wrote = coded_of a _ wrote refl
wrote_coded m boot code v name h gone a phrase wrote = coded_of a _ wrote refl
wrote_coded m boot code v name h (newer number) a phrase wrote = coded_of a _ wrote refl
wrote_coded m boot code v name h forbidden a phrase wrote = coded_of a _ wrote refl
wrote_coded m boot code v name h (full room) a phrase wrote = coded_of a _ wrote refl
wrote_coded m boot code v name h (storage_moved now) a phrase wrote = absurd wrote

wrote_shown : (m : Meaning) (boot code v : ℕ) (name : List ℕ) (h : ObjectView) (end : WriteEnd) (a : Answer) (i : Option Item)
    → IsSuccess code → Shows end → Wrote m boot code v name h end a → Sound a i
wrote_shown m boot code v name h (done number born) a i phrase shows wrote = shows_sound m boot code v h number born a i phrase wrote
wrote_shown m boot code v name h (kept number born) a i phrase shows wrote = shows_sound m boot code_ok v h number born a i ok-200 wrote
wrote_shown m boot code v name h (same number born) a i phrase shows wrote = shows_sound m boot code_ok v h number born a i ok-200 wrote
wrote_shown m boot code v name h unserved a i phrase shows wrote = absurd shows
wrote_shown m boot code v name h present a i phrase shows wrote = absurd shows
wrote_shown m boot code v name h gone a i phrase shows wrote = absurd shows
wrote_shown m boot code v name h (newer number) a i phrase shows wrote = absurd shows
wrote_shown m boot code v name h forbidden a i phrase shows wrote = absurd shows
wrote_shown m boot code v name h (full room) a i phrase shows wrote = absurd shows
wrote_shown m boot code v name h (storage_moved now) a i phrase shows wrote = absurd shows

wrote_sound : (m : Meaning) (boot code v : ℕ) (name : List ℕ) (h : ObjectView) (d : Decision WriteEnd) (a : Answer) (i : Option Item)
    → IsSuccess code → Neat d → Wrote m boot code v name h d.answer a → i ≡ d.item → Sound a i
wrote_sound m boot code v name h d a i phrase neat wrote is = elim neat [
  | inl none ↦ none_sound a i (is ∙ none) (wrote_coded m boot code v name h d.answer a phrase wrote)
  | inr shows ↦ wrote_shown m boot code v name h d.answer a i phrase shows wrote
]

neat_if : (b : Bool) (d e : Decision WriteEnd) → Neat d → Neat e → Neat (if b then d else e)
neat_if true d e one other = one
neat_if false d e one other = other

neat_room : (n born : ℕ) (x : Item) (o : Option Room) → Neat (with_room n born x o)
neat_room n born x None = inr tt
neat_room n born x (Some r) = inl refl

neat_create : (limits : Limits) (n : ℕ) (s : State) (v : ℕ) (k : KeyView) (h : ObjectView) (w : ℕ) → Neat (create_decision limits n s v k h w)
neat_create limits n s v k h w =
    neat_if (not (served s.flags v)) (says unserved) _ (inl refl)
    (neat_if (is_some (find k s.objects)) (says present) _ (inl refl)
    (neat_if (nat_eq s.flags.storage s.flags.storage) _ (says (storage_moved s.flags.storage))
    (neat_room n n (entry (Create k h w)) (lacking limits s.objects w)) (inl refl)))

neat_replaced : (limits : Limits) (n : ℕ) (s : State) (k : KeyView) (old h : ObjectView) (w : ℕ) (equal : Bool) (e : Stored) → Neat (replaced limits n s k old h w equal e)
neat_replaced limits n s k old h w equal e =
    neat_if (is_forbidden old h) (says forbidden) _ (inl refl)
    (neat_if (is_release old h) _ _ (inr tt)
    (neat_if (equal && nat_eq e.at s.flags.storage) (says (same e.number e.born)) _ (inl refl)
    (neat_room n e.born (entry (Replace k e.number h w)) (lacking_chunks limits s.objects e.weight w))))

neat_removed : (n : ℕ) (k : KeyView) (old : ObjectView) (stamp : List ℕ) (e : Stored) → Neat (removed n k old stamp e)
neat_removed n k old stamp e =
    neat_if (not (has_finalizer old)) _ _ (inr tt) (neat_if (is_marked old) (says (kept e.number e.born)) _ (inl refl) (inr tt))

neat_of : (d e : Decision WriteEnd) → d ≡ e → Neat e → Neat d
neat_of d e one is = subst (λ (x : Decision WriteEnd). Neat x) (sym one) is

neat_replace : (m : Meaning) (limits : Limits) (n : ℕ) (s : State) (v : ℕ) (k : KeyView) (over : ℕ) (new : ObjectView) (w : ℕ) (h : ObjectView) (d : Decision WriteEnd)
    → ReplaceDecision m limits n s v k over new w h d → Neat d
neat_replace m limits n s v k over new w h d decision =
    either_bool (served s.flags v) _ _ (Neat d)
    (either_option (find k s.objects) _ _ (Neat d) (λ e. neat_of d _ e (inl refl))
    (λ x at. either_bool (nat_eq x.number over) _ _ (Neat d)
    (λ r. neat_of d _ r.5 (neat_replaced limits n s k r.0 h w r.1 x)) (λ e. neat_of d _ e (inl refl)) at))
    (λ e. neat_of d _ e (inl refl)) decision

neat_delete : (m : Meaning) (n : ℕ) (s : State) (v : ℕ) (k : KeyView) (stamp : List ℕ) (old : ObjectView) (d : Decision WriteEnd)
    → DeleteDecision m n s v k stamp old d → Neat d
neat_delete m n s v k stamp old d decision =
    either_bool (served s.flags v) _ _ (Neat d)
    (either_option (find k s.objects) _ _ (Neat d) (λ e. neat_of d _ e (inl refl)) (λ x at. neat_of d _ at.1 (neat_removed n k old stamp x)))
    (λ e. neat_of d _ e (inl refl)) decision

fault_other : (m : Meaning) (f : Fault) → is_converter (fault_refusal m f) ≡ false
fault_other m (fault.bad_request why) = refl
fault_other m (fault.invalid name cause) = refl

body_other : (subject : SubjectView) (f : Fault) → is_converter (body_refusal subject f) ≡ false
body_other subject (fault.bad_request why) = refl
body_other subject (fault.invalid name cause) = refl

start_other : (f : Fault) → is_converter (start_refusal f) ≡ false
start_other (fault.bad_request why) = refl
start_other (fault.invalid name cause) = refl

bad_request_sound : (m : Meaning) (r : Request) (a : Answer) (i : Option Item) → IsRefusedRequest m r a i → Sound a i
bad_request_sound m r a i bad = refused_sound a _ i bad.2 bad.3 (fault_other m bad.0)

create_sound : (m : Meaning) (limits : Limits) (boot n : ℕ) (s : State) (r : Request) (stamp : List ℕ) (a : Answer) (i : Option Item)
    → CreateReply m limits boot n s r stamp a i → Sound a i
create_sound m limits boot n s r stamp a i reply =
    either_bool (served s.flags r.version) _ _ (Sound a i)
    (λ x. elim x [
      | inl bad ↦ bad_request_sound m r a i bad
      | inr c ↦ wrote_sound m boot code_created r.version _ _ _ a i ok-201 (neat_create limits n s r.version _ _ c.2) c.5.0 c.5.1
    ])
    (λ e. refused_sound a _ i e.0 e.1 refl) reply

replace_sound : (m : Meaning) (limits : Limits) (boot n : ℕ) (s : State) (r : Request) (k : KeyView) (a : Answer) (i : Option Item)
    → ReplaceReply m limits boot n s r k a i → Sound a i
replace_sound m limits boot n s r k a i reply =
    either_bool (served s.flags r.version) _ _ (Sound a i)
    (λ x. elim x [
      | inl bad ↦ bad_request_sound m r a i bad
      | inr c ↦ wrote_sound m boot code_ok r.version k.name c.3 c.4 a i ok-200 (neat_replace m limits n s r.version k c.1 c.0 c.2 c.3 c.4 c.7) c.8 c.9
    ])
    (λ e. refused_sound a _ i e.0 e.1 refl) reply

deleted_sound : (m : Meaning) (boot v : ℕ) (k : KeyView) (h : ObjectView) (end : WriteEnd) (item i : Option Item) (a : Answer)
    → (item ≡ None) ⊎ Shows end → Deleted m boot v k h end a → i ≡ item → Sound a i
deleted_sound m boot v k h (done number born) item i a neat wrote is = sound_of a _ i i wrote refl ok-200
deleted_sound m boot v k h (kept number born) item i a neat wrote is = wrote_sound m boot code_ok v k.name h (record { answer = kept number born; item = item }) a i ok-200 neat wrote is
deleted_sound m boot v k h (same number born) item i a neat wrote is = wrote_sound m boot code_ok v k.name h (record { answer = same number born; item = item }) a i ok-200 neat wrote is
deleted_sound m boot v k h unserved item i a neat wrote is = wrote_sound m boot code_ok v k.name h (record { answer = unserved; item = item }) a i ok-200 neat wrote is
deleted_sound m boot v k h present item i a neat wrote is = wrote_sound m boot code_ok v k.name h (record { answer = present; item = item }) a i ok-200 neat wrote is
deleted_sound m boot v k h gone item i a neat wrote is = wrote_sound m boot code_ok v k.name h (record { answer = gone; item = item }) a i ok-200 neat wrote is
deleted_sound m boot v k h (newer number) item i a neat wrote is = wrote_sound m boot code_ok v k.name h (record { answer = newer number; item = item }) a i ok-200 neat wrote is
deleted_sound m boot v k h forbidden item i a neat wrote is = wrote_sound m boot code_ok v k.name h (record { answer = forbidden; item = item }) a i ok-200 neat wrote is
deleted_sound m boot v k h (full room) item i a neat wrote is = wrote_sound m boot code_ok v k.name h (record { answer = full room; item = item }) a i ok-200 neat wrote is
deleted_sound m boot v k h (storage_moved now) item i a neat wrote is = absurd wrote

delete_sound : (m : Meaning) (boot n : ℕ) (s : State) (v : ℕ) (body : List ℕ) (k : KeyView) (stamp : List ℕ) (a : Answer) (i : Option Item)
    → DeleteReply m boot n s v body k stamp a i → Sound a i
delete_sound m boot n s v body k stamp a i reply =
    either_bool (served s.flags v) _ _ (Sound a i)
    (λ x. elim x [
      | inl y ↦ deleted_sound m boot v k _ y.1.1.answer y.1.1.item i a (neat_delete m n s v k stamp y.1.0 y.1.1 y.1.2) y.1.3 y.1.4
      | inr y ↦ refused_sound a _ i y.1 y.2 refl
    ])
    (λ e. refused_sound a _ i e.0 e.1 refl) reply

-- ---- the definition and migrations

set_sound : (m : Meaning) (s : State) (f : Flags) (b : Bool) (stored : List ℕ) (x : Item)
    → Sound (set_answer m f (if b then says (ends.unchanged s.stored) else enters (ends.set stored) x).answer) (if b then says (ends.unchanged s.stored) else enters (ends.set stored) x).item
set_sound m s f true stored x = ok-200
set_sound m s f false stored x = ok-200

trim_free_sound : (m : Meaning) (s : State) (keep : List ℕ) (o : Option (ℕ × Option KeyView)) → Sound (trim_answer m (trim_free s keep o).answer) (trim_free s keep o).item
trim_free_sound m s keep (Some held) = (refl, refl)
trim_free_sound m s keep None = by (list_all (has keep) s.stored)
  where
    rest : Decision ends.TrimEnd
    rest = enters (ends.trimmed s.flags (filter (has keep) s.stored)) (entry (Trim (filter (has keep) s.stored)))

    by : (b : Bool) → Sound (trim_answer m (if b then says (ends.untrimmed s.flags s.stored) else rest).answer) (if b then says (ends.untrimmed s.flags s.stored) else rest).item
    by true = ok-200
    by false = ok-200

trim_sound : (m : Meaning) (s : State) (keep : List ℕ) (o : Option ℕ) → Sound (trim_answer m (trim_known s keep o).answer) (trim_known s keep o).item
trim_sound m s keep (Some v) = (refl, refl)
trim_sound m s keep None = trim_free_sound m s keep (first_held keep s s.stored)

start_room_sound : (m : Meaning) (s : State) (name : List ℕ) (o : Option Room) → Sound (start_answer m name (start_room s name o).answer) (start_room s name o).item
start_room_sound m s name (Some r) = (refl, refl)
start_room_sound m s name None = ok-201

start_idle_sound : (m : Meaning) (limits : Limits) (s : State) (name : List ℕ) (o : Option Migration) → Sound (start_answer m name (start_idle limits s name o).answer) (start_idle limits s name o).item
start_idle_sound m limits s name (Some q) = (refl, refl)
start_idle_sound m limits s name None = start_room_sound m s name (lacking_migrations limits s.migrations)

start_sound : (m : Meaning) (limits : Limits) (s : State) (name : List ℕ) (b : Bool)
    → Sound (start_answer m name (if b then says ends.taken else start_idle limits s name (running s.migrations)).answer) (if b then says ends.taken else start_idle limits s name (running s.migrations)).item
start_sound m limits s name true = (refl, refl)
start_sound m limits s name false = start_idle_sound m limits s name (running s.migrations)

-- ---- calls

abbrev SoundTold : Told → Option Item → Type 0
SoundTold (answered a) i = Sound a i
SoundTold (worked end claim) i = Unit {0}
SoundTold (failed f claim) i = Unit {0}
SoundTold (gave_back held) i = Unit {0}

told_sound : (R : Answer → Option Item → Type 0) (t : Told) (i : Option Item) → ((a : Answer) → R a i → Sound a i) → (a : Answer) × (t ≡ answered a) × R a i → SoundTold t i
told_sound R t i f told = subst (λ (x : Told). SoundTold x i) (sym told.1) (f told.0 told.2)

decided_sound : (s : Server) (stamp : List ℕ) (log : List Item) (c : Call) (t : Told) (i : Option Item) → Decides s stamp log c t i → SoundTold t i
decided_sound s stamp log (get v k) t i d = told_sound (GetReply s.meaning s.boot (state s.meaning log) v k) t i (λ a r. get_sound s.meaning s.boot (state s.meaning log) v k a i r) d
decided_sound s stamp log (list v ns limit from) t i d =
    told_sound (ListReply s.meaning s.limits s.boot log v ns limit from) t i (λ a r. none_sound a i r.0 (pages_coded s.meaning s.boot v (page_decision s.limits s.meaning log v ns limit from) a r.1)) d
decided_sound s stamp log (create r) t i d = told_sound (CreateReply s.meaning s.limits s.boot (revision log + 1) (state s.meaning log) r stamp) t i (λ a x. create_sound s.meaning s.limits s.boot (revision log + 1) (state s.meaning log) r stamp a i x) d
decided_sound s stamp log (replace r k) t i d = told_sound (ReplaceReply s.meaning s.limits s.boot (revision log + 1) (state s.meaning log) r k) t i (λ a x. replace_sound s.meaning s.limits s.boot (revision log + 1) (state s.meaning log) r k a i x) d
decided_sound s stamp log (delete v k body) t i d = told_sound (DeleteReply s.meaning s.boot (revision log + 1) (state s.meaning log) v body k stamp) t i (λ a x. delete_sound s.meaning s.boot (revision log + 1) (state s.meaning log) v body k stamp a i x) d
decided_sound s stamp log group t i d = told_sound (GroupReply s.meaning (state s.meaning log)) t i (λ a x. none_sound a i x.1 (coded_of a _ x.0.3 ok-200)) d
decided_sound s stamp log crd t i d = told_sound (CrdReply s.meaning (state s.meaning log)) t i (λ a x. none_sound a i x.1 (coded_of a _ x.0 ok-200)) d
decided_sound s stamp log (set_versions body) t i d = told_sound (SetReply s.meaning (state s.meaning log) body) t i (λ a x. elim x [
  | inl bad ↦ refused_sound a _ i bad.2 bad.3 (body_other (definition_subject s.meaning) bad.0)
  | inr y ↦ sound_of a _ i _ y.2 y.3 (set_sound s.meaning (state s.meaning log) y.0 (same_flags y.0 (state s.meaning log).flags) _ _)
]) d
decided_sound s stamp log (trim body) t i d = told_sound (TrimReply s.meaning (state s.meaning log) body) t i (λ a x. elim x [
  | inl bad ↦ refused_sound a _ i bad.2 bad.3 (body_other (definition_subject s.meaning) bad.0)
  | inr y ↦ sound_of a _ i _ y.2 y.3 (trim_sound s.meaning (state s.meaning log) y.0 (first_unknown (state s.meaning log).stored y.0))
]) d
decided_sound s stamp log (start body) t i d = told_sound (StartReply s.meaning s.limits (state s.meaning log) body) t i (λ a x. elim x [
  | inl bad ↦ refused_sound a _ i bad.2 bad.3 (start_other bad.0)
  | inr y ↦ sound_of a _ i _ y.2 y.3 (start_sound s.meaning s.limits (state s.meaning log) y.0 (is_some (named y.0 (state s.meaning log).migrations)))
]) d
decided_sound s stamp log (migration name) t i d = told_sound (MigrationReply s.meaning (state s.meaning log) name) t i (λ a x. none_sound a i x.0
    (either_option (named name (state s.meaning log).migrations) _ _ (Coded a) (λ e. coded_of a _ e refl) (λ q e. coded_of a _ e ok-200) x.1)) d
decided_sound s stamp log migrations t i d = told_sound (MigrationsReply s.meaning (state s.meaning log)) t i (λ a x. none_sound a i x.1 (coded_of a _ x.0 ok-200)) d
decided_sound s stamp log (raw k) t i d = told_sound (RawReply s.meaning (state s.meaning log) k) t i (λ a r. raw_sound s.meaning (state s.meaning log) k a i r) d
decided_sound s stamp log (work claim) t i d = subst (λ (x : Told). SoundTold x i) (sym d.0) tt
decided_sound s stamp log (give_back claim) t i d = subst (λ (x : Told). SoundTold x i) (sym d.0) tt

-- ---- what comes of a call

-- the tool failed where `rose` holds
abbrev pub Fair : Type 0 → Answer → Option Item → Type 0
Fair rose (Ok r) i = IsSuccess r.code
Fair rose (Err e) i = (i ≡ None) × (is_converter e ≡ true → rose)

abbrev pub FairTold : Type 0 → Told → Option Item → Type 0
FairTold rose (answered a) i = Fair rose a i
FairTold rose (worked end claim) i = Unit {0}
FairTold rose (failed f claim) i = Unit {0}
FairTold rose (gave_back held) i = Unit {0}

not_both : (b : Bool) → b ≡ false → b ≡ true → ⊥
not_both b one other = cc

fair : (rose : Type 0) (t : Told) (i : Option Item) → SoundTold t i → FairTold rose t i
fair rose (answered (Ok r)) i sound = sound
fair rose (answered (Err e)) i sound = (sound.0, λ yes. absurd (not_both (is_converter e) sound.1 yes))
fair rose (worked end claim) i sound = tt
fair rose (failed f claim) i sound = tt
fair rose (gave_back held) i sound = tt

refused_told : (rose : Type 0) (t : Told) (e : RefusalView) → (is_converter e ≡ true → rose) → t ≡ answered (Err e) → FairTold rose t None
refused_told rose t e why is = subst (λ (x : Told). FairTold rose x None) (sym is) (refl, why)

fails_fair : (rose : Type 0) (f : Failure) (c : Call) (t : Told) → (is_converter (failure_refusal f) ≡ true → rose) → Fails f c t → FairTold rose t None
fails_fair rose f (get v k) t why is = refused_told rose t (failure_refusal f) why is
fails_fair rose f (list v ns limit from) t why is = refused_told rose t (failure_refusal f) why is
fails_fair rose f (create r) t why is = refused_told rose t (failure_refusal f) why is
fails_fair rose f (replace r k) t why is = refused_told rose t (failure_refusal f) why is
fails_fair rose f (delete v k body) t why is = refused_told rose t (failure_refusal f) why is
fails_fair rose f group t why is = refused_told rose t (failure_refusal f) why is
fails_fair rose f crd t why is = refused_told rose t (failure_refusal f) why is
fails_fair rose f (set_versions body) t why is = refused_told rose t (failure_refusal f) why is
fails_fair rose f (trim body) t why is = refused_told rose t (failure_refusal f) why is
fails_fair rose f (start body) t why is = refused_told rose t (failure_refusal f) why is
fails_fair rose f (migration name) t why is = refused_told rose t (failure_refusal f) why is
fails_fair rose f migrations t why is = refused_told rose t (failure_refusal f) why is
fails_fair rose f (raw k) t why is = refused_told rose t (failure_refusal f) why is
fails_fair rose f (work claim) t why is = subst (λ (x : Told). FairTold rose x None) (sym is) tt
fails_fair rose f (give_back claim) t why is = absurd is

pub comes_fair : (s : Server) (rose : Type 0) (stamp : List ℕ) (seen log : List Item) (c : Call) (t : Told) (i : Option Item)
    → Comes s rose stamp seen log c t i → FairTold rose t i
comes_fair s rose stamp seen log c t i (decided d u j is) = fair rose u j (decided_sound s stamp log d u j is)
comes_fair s rose stamp seen log c t i (wants_memory d u is) = fails_fair rose calls.no_memory d u (λ yes. absurd (not_both false refl yes)) is
comes_fair s rose stamp seen log c t i (not_converted d u up converts is) = fails_fair rose calls.converter d u (λ yes. up) is
comes_fair s rose stamp seen log c t i (moved claim is) = tt
comes_fair s rose stamp seen log c t i (lost claim is) = tt

-- ---- what is written

code_502 : (e : RefusalView) → code_of_refusal e ≡ code_bad_gateway → is_converter e ≡ true
code_502 (refusal.not_found name) is = absurd (omega (arith, is))
code_502 refusal.no_resource is = absurd (omega (arith, is))
code_502 (refusal.already_exists name) is = absurd (omega (arith, is))
code_502 (refusal.conflict name over) is = absurd (omega (arith, is))
code_502 (refusal.invalid subject cause) is = absurd (omega (arith, is))
code_502 (refusal.bad_request why) is = absurd (omega (arith, is))
code_502 (refusal.expired floor) is = absurd (omega (arith, is))
code_502 (refusal.full room) is = absurd (omega (arith, is))
code_502 (refusal.migration_running name) is = absurd (omega (arith, is))
code_502 (refusal.still_stored version key) is = absurd (omega (arith, is))
code_502 refusal.converter is = refl
code_502 refusal.no_memory is = absurd (omega (arith, is))

success_not_502 : (code : ℕ) → IsSuccess code → code ≡ code_bad_gateway → ⊥
success_not_502 code ok is = elim ok [ inl e ↦ omega (arith, e, is) | inr e ↦ omega (arith, e, is) ]

-- a written 502 tells that the tool failed
pub told_502 : (m : Meaning) (subject : About) (rose : Type 0) (a : Answer) (i : Option Item) → Fair rose a i → (replied m subject a).code ≡ code_bad_gateway → rose
told_502 m subject rose (Ok r) i ok is = absurd (success_not_502 r.code ok is)
told_502 m subject rose (Err e) i ok is = ok.1 (code_502 e is)
