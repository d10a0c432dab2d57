-- A change of the flags and the start of a migration, as the migrations' calls tell them.
use Rattle.std.specs.Prelude.{◌≡◌, ℕ, Bool, true, false, List, length, Option, None, Some, is_some, nat_eq, nat_lt, if◌then◌else◌}
use Rattle.std.proofs.Common.{refl, ap, sym, ◌∙◌, subst, arith}
use Rattle.std.proofs.lemmas.Bool.Decides.{nat_tests}
use Rattle.kube_meta.specs.Plan.{Migration, named, running}
use Rattle.kube_meta.specs.declared.limits.Limits.{Limits}
use Rattle.kube_meta.specs.declared.limits.RoomKind.TheVariants.{Migrations}
use Rattle.migrate_core.specs.declared.ends.StartEnd.{StartEnd}
use Rattle.migrate_core.specs.declared.ends.StartEnd.TheVariants as start
use Rattle.migrate_core.specs.View.{MigrationsView}
use Rattle.migrate_core.specs.Moves as moves
use Rattle.api_calls.specs.declared.flags.Flags.{Flags}
use Rattle.api_calls.specs.Item.{entry, SetVersions, StartMigration}
use Rattle.api_calls.specs.State.{State, has, joined, moved_storage, entry_effect}
use Rattle.api_calls.specs.Ends as ends
use Rattle.api_calls.specs.Settings.{same_flags, set_decision, start_decision}
use Rattle.api_core.specs.Ends.{start_end}
use Rattle.api_core.specs.laws.WorkRows.{migrations_of}

number : (m n : ℕ) → nat_eq m n ≡ true → m ≡ n
number m n h = grind (arith, nat_tests)

-- ---- flags

pub set-same : (s : State) (f : Flags) → same_flags f s.flags ≡ true → set_decision s f ≡ ends.says (ends.unchanged s.stored)
set-same s f same = rw same refl

pub set-done : (s : State) (f : Flags) → same_flags f s.flags ≡ false → set_decision s f ≡ ends.enters (ends.set (joined s.stored f.storage)) (entry (SetVersions f))
set-done s f other = rw other refl

-- the migrations after a change of the storage version
abbrev pub after_storage : ℕ → State → MigrationsView → MigrationsView
after_storage v s ms = if nat_eq v s.flags.storage then ms else moves.after_fail ms

-- the state after a change of the flags, in parts
pub record IsSet (limits : Limits) (n : ℕ) (f : Flags) (s : State) : Type 0 where
  pub flags : (entry_effect n (SetVersions f) s).flags ≡ f
  pub stored : (entry_effect n (SetVersions f) s).stored ≡ joined s.stored f.storage
  pub objects : (entry_effect n (SetVersions f) s).objects ≡ s.objects
  pub migrations : migrations_of limits (entry_effect n (SetVersions f) s) ≡ after_storage f.storage s (migrations_of limits s)

pub set-effect : (limits : Limits) (n : ℕ) (f : Flags) (s : State) → has s.stored s.flags.storage ≡ true → IsSet limits n f s
set-effect limits n f s storage = record {
  flags = flags (nat_eq f.storage s.flags.storage);
  stored = stored (nat_eq f.storage s.flags.storage) refl;
  objects = objects (nat_eq f.storage s.flags.storage);
  migrations = migrations (nat_eq f.storage s.flags.storage);
}
  where
    flags : (b : Bool) → (if b then record s { flags = f } else moved_storage f s).flags ≡ f
    flags true = refl
    flags false = refl

    stored : (b : Bool) → nat_eq f.storage s.flags.storage ≡ b → (if b then record s { flags = f } else moved_storage f s).stored ≡ joined s.stored f.storage
    stored true same =
        let at : f.storage ≡ s.flags.storage = number f.storage s.flags.storage same in
        let there : has s.stored f.storage ≡ true = ap (has s.stored) at ∙ storage in
        rw there refl
    stored false other = refl

    objects : (b : Bool) → (if b then record s { flags = f } else moved_storage f s).objects ≡ s.objects
    objects true = refl
    objects false = refl

    migrations : (b : Bool) → migrations_of limits (if b then record s { flags = f } else moved_storage f s)
        ≡ (if b then migrations_of limits s else moves.after_fail (migrations_of limits s))
    migrations true = refl
    migrations false = refl

-- ---- the start of a migration

-- how a start ended, where it is decided: one was started, or nothing changed
pub record Starts (limits : Limits) (n : ℕ) (s : State) (name : List ℕ) (target : ℕ) (after : MigrationsView) : Type 0 where
  pub decision : start_decision limits s name ≡ ends.enters (ends.started target) (entry (StartMigration name))
  pub changed : after ≡ migrations_of limits (entry_effect n (StartMigration name) s)

pub record Stays (limits : Limits) (s : State) (name : List ℕ) (end : StartEnd) (after : MigrationsView) : Type 0 where
  pub decision : start_decision limits s name ≡ ends.says (start_end end)
  pub same : after ≡ migrations_of limits s

-- by the end of a start
abbrev pub Decided : Limits → ℕ → State → List ℕ → StartEnd → MigrationsView → Type 0
Decided limits n s name (start.Done target) after = Starts limits n s name target after
Decided limits n s name start.AlreadyExists after = Stays limits s name start.AlreadyExists after
Decided limits n s name (start.Running other) after = Stays limits s name (start.Running other) after
Decided limits n s name (start.Full room) after = Stays limits s name (start.Full room) after

pub start-decided : (limits : Limits) (n : ℕ) (s : State) (name : List ℕ) (end : StartEnd) (after : MigrationsView)
    → end ≡ moves.start_end name s.flags.storage (migrations_of limits s) → after ≡ moves.after_start end name (migrations_of limits s)
    → Decided limits n s name end after
start-decided limits n s name end after is plan = with_name (is_some (named name s.migrations)) refl end is plan
  where
    by_room : (b : Bool) → nat_lt (length s.migrations) limits.migrations ≡ b → is_some (named name s.migrations) ≡ false → running s.migrations ≡ None
        → (e : StartEnd) → e ≡ (if b then start.Done s.flags.storage else start.Full (record { what = Migrations; need = 1; free = 0 }))
        → after ≡ moves.after_start e name (migrations_of limits s) → Decided limits n s name e after
    by_room true room fresh idle e is plan = subst (λ (f : StartEnd). after ≡ moves.after_start f name (migrations_of limits s) → Decided limits n s name f after) (sym is)
        (λ plan. record { decision = rw (fresh, idle, room) refl; changed = plan }) plan
    by_room false room fresh idle e is plan = subst (λ (f : StartEnd). after ≡ moves.after_start f name (migrations_of limits s) → Decided limits n s name f after) (sym is)
        (λ plan. record { decision = rw (fresh, idle, room) refl; same = plan }) plan

    by_running : (o : Option Migration) → running s.migrations ≡ o → is_some (named name s.migrations) ≡ false
        → (e : StartEnd) → e ≡ moves.start_idle s.flags.storage (migrations_of limits s) o
        → after ≡ moves.after_start e name (migrations_of limits s) → Decided limits n s name e after
    by_running (Some q) runs fresh e is plan = subst (λ (f : StartEnd). after ≡ moves.after_start f name (migrations_of limits s) → Decided limits n s name f after) (sym is)
        (λ plan. record { decision = rw (fresh, runs) refl; same = plan }) plan
    by_running None idle fresh e is plan = by_room (nat_lt (length s.migrations) limits.migrations) refl fresh idle e is plan

    with_name : (b : Bool) → is_some (named name s.migrations) ≡ b
        → (e : StartEnd) → e ≡ (if b then start.AlreadyExists else moves.start_idle s.flags.storage (migrations_of limits s) (running s.migrations))
        → after ≡ moves.after_start e name (migrations_of limits s) → Decided limits n s name e after
    with_name true taken e is plan = subst (λ (f : StartEnd). after ≡ moves.after_start f name (migrations_of limits s) → Decided limits n s name f after) (sym is)
        (λ plan. record { decision = rw taken refl; same = plan }) plan
    with_name false fresh e is plan = by_running (running s.migrations) refl fresh e is plan
