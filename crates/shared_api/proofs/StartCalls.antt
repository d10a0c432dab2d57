-- From the turn of a start to its answer.
use Rattle.std.proofs.Common.{◌≡◌, ◌∙◌, ◌<◌, ◌+◌, ◌^◌, ℕ, Bool, true, false, List, [], ◌∷◌, ◌++◌, Option, None, Some, Err, length, ap, sym, subst, refl, inl, inr}
use Rattle.std.specs.Prelude.{◌⊎◌, if◌then◌else◌, is_some}
use Rattle.kube_meta.specs.Plan.{Migration, named, running}
use Rattle.kube_meta.specs.declared.limits.Limits.{Limits}
use Rattle.kube_meta.specs.declared.limits.Room.{Room}
use Rattle.api_calls.specs.Bodies.{Starts}
use Rattle.api_calls.specs.Calls.{Told, answered, Failure, no_memory, converter, Fails, failure_refusal, start}
use Rattle.api_calls.specs.Ends as ends
use Rattle.api_calls.specs.Ends.{Decision}
use Rattle.api_calls.specs.Item.{Item, entry, StartMigration, items}
use Rattle.api_calls.specs.Legal.{IsLegal}
use Rattle.api_calls.specs.Meaning.{Meaning}
use Rattle.api_calls.specs.Refusal.{RefusalView}
use Rattle.api_calls.specs.Replies.{Answer, StartReply, start_answer}
use Rattle.api_calls.specs.Room.{lacking_migrations}
use Rattle.api_calls.specs.Settings.{start_decision, start_idle, start_room}
use Rattle.api_calls.specs.State.{State, state}
use Rattle.api_calls.specs.Versions.{AreFlags}
use Rattle.api_calls.specs.declared.flags.Flags.{Flags}
use Rattle.api_calls.specs.declared.flags.StoredList.{StoredList}
use Rattle.api_core.specs.CoreOf.{CoreOf, SameBase}
use Rattle.migrate_core.specs.declared.ends.StartEnd.{StartEnd}
use Rattle.turn_cell.specs.Views.{Later, set_stage}
use Rattle.turn_cell.specs.declared.view.Stage.TheVariants.{Holds}
use Rattle.turn_cell.specs.declared.view.View.{View}
use Rattle.call_texts.specs.Told.{Came}
use Rattle.shared_api.specs.Answered.{CallsOn}
use Rattle.shared_api.specs.Base.{StandsCell, base_of, server_of}
use Rattle.setting_texts.specs.Starting.{HasTarget, IsUnstarted, is_started}
use Rattle.shared_api.specs.inner.StartTurns.{BeginsStart}
use Rattle.shared_api.specs.inner.Turning.{Closes, Settles, Writes, item_if}
use Rattle.shared_api.specs.declared.cell.CoreBase.{CoreBase}
use Rattle.shared_api.proofs.Changing.{came-more}
use Rattle.shared_api.proofs.Entering.{writes, writes_calls}
use Rattle.shared_api.proofs.Turns.{reads_calls}

-- ---- by the decision

-- what holds of each way in which a start is decided
start-cases : (P : Decision ends.StartEnd → Type 0) (limits : Limits) (s : State) (name : List ℕ)
    → P (ends.says ends.taken)
    → ((other : List ℕ) → P (ends.says (ends.busy other)))
    → ((room : Room) → P (ends.says (ends.no_room room)))
    → P (ends.enters (ends.started s.flags.storage) (entry (StartMigration name)))
    → P (start_decision limits s name)
start-cases P limits s name taken busy full done = by (is_some (named name s.migrations))
  where
    room : (o : Option Room) → P (start_room s name o)
    room (Some r) = full r
    room None = done

    idle : (o : Option Migration) → P (start_idle limits s name o)
    idle (Some q) = busy q.name
    idle None = room (lacking_migrations limits s.migrations)

    by : (b : Bool) → P (if b then ends.says ends.taken else start_idle limits s name (running s.migrations))
    by true = taken
    by false = idle (running s.migrations)

abbrev Enters : List ℕ → Decision ends.StartEnd → Type 0
Enters name d = (e : ends.StartEnd) → e ≡ d.answer → d.item ≡ item_if (is_started e) (entry (StartMigration name))

entered : (name : List ℕ) (x : ends.StartEnd) (i : Option Item) → i ≡ item_if (is_started x) (entry (StartMigration name)) → Enters name (record { answer = x; item = i })
entered name x i here e is = here ∙ ap (λ (y : ends.StartEnd). item_if (is_started y) (entry (StartMigration name))) (sym is)

-- the item by the end
pub start-item : (limits : Limits) (s : State) (name : List ℕ) → Enters name (start_decision limits s name)
start-item limits s name =
    start-cases (Enters name) limits s name
    (entered name ends.taken None refl)
    (λ other. entered name (ends.busy other) None refl)
    (λ room. entered name (ends.no_room room) None refl)
    (entered name (ends.started s.flags.storage) (Some (entry (StartMigration name))) refl)

-- what isn't started enters nothing
start-none : (limits : Limits) (s : State) (name : List ℕ) (e : ends.StartEnd) → e ≡ (start_decision limits s name).answer → is_started e ≡ false → (start_decision limits s name).item ≡ None
start-none limits s name e is none = start-item limits s name e is ∙ ap (λ (b : Bool). item_if b (entry (StartMigration name))) none

-- the target is the storage version
pub start-target : (count : ℕ) (limits : Limits) (s : State) (name : List ℕ) (e : ends.StartEnd) → s.flags.storage < count → e ≡ (start_decision limits s name).answer → HasTarget count e
start-target count limits s name e known is =
    subst (HasTarget count) (sym is)
    (start-cases (λ (d : Decision ends.StartEnd). HasTarget count d.answer) limits s name tt (λ other. tt) (λ room. tt) known)

-- ---- the turn

-- a turn that started a migration, or didn't
pub begins : {V : Type 0} (meaning : V → Meaning) (c d : CoreOf V) (b : CoreBase V) (v w z : View (CoreBase V)) (name : List ℕ) (e : ends.StartEnd) (done : Bool) (f : Flags)
    → v.base ≡ Some (base_of c) → v.base ≡ Some b → (t : ℕ) × (w ≡ set_stage v w.seen (Holds t 0)) → Later v w.seen
    → StandsCell meaning c w.seen → length w.seen < 2 ^ 61 → SameBase c d
    → f ≡ c.view.flags → AreFlags (meaning c.versions).count f
    → e ≡ (start_decision c.view.limits (state (meaning c.versions) (items w.seen)) name).answer → done ≡ is_started e
    → Closes (item_if done (entry (StartMigration name))) w z → IsLegal (meaning d.versions) d.view.limits z.seen
    → BeginsStart (server_of meaning b) v z name e
begins {V = V} meaning c d b v w z name e done f based is took later stands short kept flags are_flags ended so closed legal =
    let m = meaning c.versions in
    let s : State = state m (items w.seen) in
    let same : base_of c ≡ b = cc (based, is) in
    let item : item_if done (entry (StartMigration name)) ≡ (start_decision c.view.limits s name).item =
    ap (λ (x : Bool). item_if x (entry (StartMigration name))) so ∙ sym (start-item c.view.limits s name e ended) in
    let written = writes meaning c d (base_of c) v w z (item_if done (entry (StartMigration name))) based based took later stands short kept closed legal in
    let storage : f.storage ≡ s.flags.storage = ap (λ (x : Flags). x.storage) (flags ∙ stands.0.present.flags) in
    subst (λ (x : CoreBase V). BeginsStart (server_of meaning x) v z name e) same (record {
      log = w.seen;
      writes = subst (λ (i : Option Item). Writes (server_of meaning (base_of c)) v z w.seen i) item written;
      ended = ended;
      target = start-target m.count c.view.limits s name e (subst (λ (x : ℕ). x < m.count) storage are_flags.storage) ended;
    })

-- ---- the call

start_fails : (body : List ℕ) (f : Failure) → Fails f (start body) (answered (Err (failure_refusal f)))
start_fails body no_memory = refl
start_fails body converter = refl

-- a body that starts no migration
pub start_refused : {V : Type 0} (meaning : V → Meaning) (b : CoreBase V) (it : V) (v z : View (CoreBase V)) (body : List ℕ) (f : Flags) (stored : StoredList) (e : RefusalView)
    → it ≡ b.versions → Settles (server_of meaning b) v z f stored
    → Came ⊥ (IsUnstarted (meaning it) body) (Err e) None
    → CallsOn (server_of meaning b) ⊥ [] v z (start body) (answered (Err e))
start_refused {V = V} meaning b it v z body f stored e same settled came =
    let m = meaning b.versions in
    let s : State = state m (items settled.log) in
    let here = subst (λ (x : V). Came ⊥ (IsUnstarted (meaning x) body) (Err e) None) same came in
    reads_calls (server_of meaning b) ⊥ v z settled.log (start body) (StartReply m b.limits s body)
    (λ a i h. (a, refl, h)) (start_fails body) (λ h. absurd h) (Err e) (answered (Err e)) settled.reads
    (came-more ⊥ (IsUnstarted m body) (StartReply m b.limits s body) (Err e) None (λ a i h. inl h) here) refl

-- a body that starts a migration
pub start_calls : {V : Type 0} (meaning : V → Meaning) (b : CoreBase V) (it : V) (v z : View (CoreBase V)) (body name : List ℕ) (end : ends.StartEnd) (d : Answer) (t : Told)
    → it ≡ b.versions → Starts (meaning it) body name → BeginsStart (server_of meaning b) v z name end
    → ((i : Option Item) → (is_started end ≡ false → i ≡ None) → Came ⊥ (λ a j. (a ≡ start_answer (meaning it) name end) × (j ≡ i)) d i)
    → t ≡ answered d
    → CallsOn (server_of meaning b) ⊥ [] v z (start body) t
start_calls {V = V} meaning b it v z body name end d t same starts turned came told =
    let m = meaning b.versions in
    let s : State = state m (items turned.log) in
    let item : Option Item = (start_decision b.limits s name).item in
    let says = subst (λ (x : V). Starts (meaning x) body name) same starts in
    let here = subst (λ (x : V). Came ⊥ (λ a j. (a ≡ start_answer (meaning x) name end) × (j ≡ item)) d item) same
    (came item (start-none b.limits s name end turned.ended)) in
    writes_calls (server_of meaning b) ⊥ [] v z turned.log (start body) (StartReply m b.limits s body)
    (λ x i h. (x, refl, h)) (start_fails body) (λ h. absurd h) d t item turned.writes
    (came-more ⊥ (λ a j. (a ≡ start_answer m name end) × (j ≡ item)) (StartReply m b.limits s body) d item
    (λ a j h. inr (name, says, h.0 ∙ ap (start_answer m name) turned.ended, h.1)) here) told
