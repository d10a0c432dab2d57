-- What a turn that copies the migrations comes to, and that their targets are known versions.
use Rattle.std.proofs.Common.{◌≡◌, ℕ, ◌<◌, ◌^◌, List, [], ◌∷◌, ◌++◌, None, Some, Err, Bool, true, false, length, sym, subst, refl, ◌∙◌}
use Rattle.std.specs.Prelude.{Result, IfOk, nat_eq, if◌then◌else◌}
use Rattle.kj_value.specs.declared.error.NoMemory.{NoMemory}
use Rattle.kube_meta.specs.Plan.{Migration, ended, runs}
use Rattle.kube_meta.specs.declared.limits.Condition.{Condition}
use Rattle.kube_meta.specs.declared.limits.Condition.TheVariants.{Running, Succeeded, Failed}
use Rattle.kube_meta.specs.declared.limits.Limits.{Limits}
use Rattle.api_calls.specs.Calls.{Told, answered, Failure, no_memory, converter, Fails, failure_refusal, migration, migrations}
use Rattle.api_calls.specs.Item.{Create, Replace, Mark, Release, Touch, Delete, SetVersions, Trim, StartMigration, MarkSucceeded, Claim, RangeDone, GiveBack, Item, entry, note, items}
use Rattle.api_calls.specs.Legal.{guard, legal_from, legal}
use Rattle.api_calls.specs.Meaning.{Meaning}
use Rattle.api_calls.specs.Replies.{Answer, MigrationReply, MigrationsReply}
use Rattle.api_calls.specs.State.{State, effect, moved_storage, number_after, opening, state_from, state}
use Rattle.api_calls.specs.Versions.{AreFlags}
use Rattle.api_core.specs.CoreOf.{CoreOf}
use Rattle.turn_cell.specs.declared.view.View.{View}
use Rattle.turn_cell.specs.declared.view.Stage.TheVariants.{Holds}
use Rattle.turn_cell.specs.Views.{set_stage, Later}
use Rattle.turn_cell.specs.Turns.{Gives}
use Rattle.call_texts.specs.Told.{Came}
use Rattle.shared_api.specs.Answered.{CallsOn}
use Rattle.shared_api.specs.Base.{StandsCell, base_of, server_of}
use Rattle.setting_texts.specs.Migrating.{HaveTargets}
use Rattle.shared_api.specs.inner.MigrationTurns.{LooksMigrations}
use Rattle.shared_api.specs.declared.cell.CoreBase.{CoreBase}
use Rattle.call_texts.proofs.IfOk.{if_ok}
use Rattle.shared_api.proofs.Turns.{reads, reads_calls}

-- ---- targets

-- the flags and the targets of a state are of known versions
abbrev Known : Meaning → State → Type 0
Known m s = AreFlags m.count s.flags × HaveTargets m s.migrations

targets-ended : (m : Meaning) (c : Condition) (qs : List Migration) → HaveTargets m qs → HaveTargets m (ended c qs)
targets-ended m c [] h = tt
targets-ended m c (q ∷ qs) h = (by (runs q.condition), targets-ended m c qs h.1)
  where
    by : (b : Bool) → (if b then record q { condition = c } else q).target < m.count
    by true = h.0
    by false = h.0

targets-more : (m : Meaning) (qs : List Migration) (q : Migration) → HaveTargets m qs → q.target < m.count → HaveTargets m (qs ++ q ∷ [])
targets-more m [] q h k = (k, tt)
targets-more m (r ∷ qs) q h k = (h.0, targets-more m qs q h.1 k)

known-effect : (m : Meaning) (limits : Limits) (n : ℕ) (i : Item) (s : State) → guard m limits s i → Known m s → Known m (effect n i s)
known-effect m limits n (entry (Create k h w)) s g known = known
known-effect m limits n (entry (Replace k over h w)) s g known = known
known-effect m limits n (entry (Mark k over stamp)) s g known = known
known-effect m limits n (entry (Release k over)) s g known = known
known-effect m limits n (entry (Touch k c)) s g known = known
known-effect m limits n (entry (Delete k)) s g known = known
known-effect m limits n (entry (SetVersions f)) s g known = by (nat_eq f.storage s.flags.storage)
  where
    by : (b : Bool) → Known m (if b then record s { flags = f } else moved_storage f s)
    by true = (g.flags, known.1)
    by false = (g.flags, targets-ended m Failed s.migrations known.1)
known-effect m limits n (entry (Trim keep)) s g known = known
known-effect m limits n (entry (StartMigration name)) s g known =
    (known.0, targets-more m s.migrations (record { name = name; target = s.flags.storage; condition = Running }) known.1 known.0.storage)
known-effect m limits n (entry MarkSucceeded) s g known = (known.0, targets-ended m Succeeded s.migrations known.1)
known-effect m limits n (note (Claim c)) s g known = known
known-effect m limits n (note (RangeDone c)) s g known = known
known-effect m limits n (note (GiveBack c)) s g known = known

known-from : (m : Meaning) (limits : Limits) (n : ℕ) (s : State) (log : List Item) → legal_from m limits n s log → Known m s → Known m (state_from n s log)
known-from m limits n s [] l known = known
known-from m limits n s (i ∷ log) l known = known-from m limits (number_after n i) (effect n i s) log l.1 (known-effect m limits n i s l.0 known)

targets-known : (m : Meaning) (limits : Limits) (log : List Item) → AreFlags m.count m.opening → legal m limits log → HaveTargets m (state m log).migrations
targets-known m limits log opens l = (known-from m limits 2 (opening m) log l (opens, tt)).1

-- ---- the turn

pub looks_migrations : {V : Type 0} (meaning : V → Meaning) (c : CoreOf V) (b : CoreBase V) (v w z : View (CoreBase V)) (r : Result (List Migration) NoMemory)
    → v.base ≡ Some (base_of c) → v.base ≡ Some b → (t : ℕ) × (w ≡ set_stage v w.seen (Holds t 0)) → Later v w.seen
    → StandsCell meaning c w.seen → length w.seen < 2 ^ 61 → Gives w z
    → IfOk r (λ qs. qs ≡ c.view.migrations.items) → AreFlags (meaning c.versions).count (meaning c.versions).opening
    → LooksMigrations (server_of meaning b) v z r
looks_migrations {V = V} meaning c b v w z r based is took later stands short given copied opens =
    let same : base_of c ≡ b = cc (based, is) in
    let m = meaning c.versions in
    let there : c.view.migrations.items ≡ (state m (items w.seen)).migrations = stands.0.present.migrations in
    let known = targets-known m c.view.limits (items w.seen) opens stands.0.legal in
    subst (λ (x : CoreBase V). LooksMigrations (server_of meaning x) v z r) same (record {
      log = w.seen;
      reads = reads meaning c v w z took later stands short given;
      listed = if_ok (λ qs. qs ≡ c.view.migrations.items) (λ qs. qs ≡ (state m (items w.seen)).migrations) r (λ qs h. h ∙ there) copied;
      known = if_ok (λ qs. qs ≡ c.view.migrations.items) (λ qs. HaveTargets m qs) r (λ qs h. subst (λ (xs : List Migration). HaveTargets m xs) (sym (h ∙ there)) known) copied;
    })

-- ---- the calls

migration_fails : (name : List ℕ) (f : Failure) → Fails f (migration name) (answered (Err (failure_refusal f)))
migration_fails name no_memory = refl
migration_fails name converter = refl

migrations_fails : (f : Failure) → Fails f migrations (answered (Err (failure_refusal f)))
migrations_fails no_memory = refl
migrations_fails converter = refl

pub migration_calls : {V : Type 0} (meaning : V → Meaning) (b : CoreBase V) (it : V) (v z : View (CoreBase V)) (name : List ℕ) (r : Result (List Migration) NoMemory) (d : Answer) (t : Told)
    → it ≡ b.versions → LooksMigrations (server_of meaning b) v z r
    → ((s : State) → IfOk r (λ qs. qs ≡ s.migrations) → Came ⊥ (MigrationReply (meaning it) s name) d None)
    → t ≡ answered d
    → CallsOn (server_of meaning b) ⊥ [] v z (migration name) t
migration_calls {V = V} meaning b it v z name r d t same looked came told =
    let s : State = state (meaning b.versions) (items looked.log) in
    let there = subst (λ (x : V). Came ⊥ (MigrationReply (meaning x) s name) d None) same (came s looked.listed) in
    reads_calls (server_of meaning b) ⊥ v z looked.log (migration name) (MigrationReply (meaning b.versions) s name)
    (λ a i h. (a, refl, h)) (migration_fails name) (λ h. absurd h) d t looked.reads there told

pub migrations_calls : {V : Type 0} (meaning : V → Meaning) (b : CoreBase V) (it : V) (v z : View (CoreBase V)) (r : Result (List Migration) NoMemory) (d : Answer) (t : Told)
    → it ≡ b.versions → LooksMigrations (server_of meaning b) v z r
    → ((s : State) → IfOk r (λ qs. qs ≡ s.migrations) → Came ⊥ (MigrationsReply (meaning it) s) d None)
    → t ≡ answered d
    → CallsOn (server_of meaning b) ⊥ [] v z migrations t
migrations_calls {V = V} meaning b it v z r d t same looked came told =
    let s : State = state (meaning b.versions) (items looked.log) in
    let there = subst (λ (x : V). Came ⊥ (MigrationsReply (meaning x) s) d None) same (came s looked.listed) in
    reads_calls (server_of meaning b) ⊥ v z looked.log migrations (MigrationsReply (meaning b.versions) s)
    (λ a i h. (a, refl, h)) migrations_fails (λ h. absurd h) d t looked.reads there told
