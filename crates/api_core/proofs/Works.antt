-- What a worker's turn answers and what it makes of the migrations is what is decided of it, and what its item changes.
use Rattle.std.specs.Prelude.{◌≡◌, ℕ, ◌+◌, Bool, true, false, ◌&&◌, List, Option, None, Some, is_some, option_map, if◌then◌else◌}
use Rattle.std.proofs.Common.{refl, ap, ◌∙◌}
use Rattle.kube_meta.specs.Key.{KeyView}
use Rattle.kube_meta.specs.Plan.{Migration, running, may_claim, is_done}
use Rattle.kube_meta.specs.declared.limits.Limits.{Limits}
use Rattle.migrate_core.specs.declared.ends.Advance.{Advance}
use Rattle.migrate_core.specs.declared.ends.Advance.TheVariants as advance
use Rattle.migrate_core.specs.declared.records.Row.{Row}
use Rattle.migrate_core.specs.View.{MigrationsView}
use Rattle.migrate_core.specs.Rows as rows
use Rattle.migrate_core.specs.Moves as moves
use Rattle.api_calls.specs.Item.{entry, note, Claim, RangeDone, GiveBack, MarkSucceeded}
use Rattle.api_calls.specs.Objects.{Stored, elsewhere}
use Rattle.api_calls.specs.State.{State, entry_effect, note_effect}
use Rattle.api_calls.specs.Ends.{idle, claimed as claim_taken, prepare, range_done, finished, says, enters}
use Rattle.api_calls.specs.Work.{Work, work_of, idle_turn, turn_decision, give_back_decision}
use Rattle.api_core.specs.laws.WorkRows.{row_of, rows_of, migrations_of, keys-rows, elsewhere-rows, work_of-claim}

-- ---- a claim goes on

-- the work that an advance has, and the first object of its span that stands elsewhere
pub record Advanced (limits : Limits) (s : State) (c : Option ℕ) (a : Advance) (after : MigrationsView) : Type 0 where
  pub work : Option Work
  pub of_claim : work_of c s ≡ work
  pub answer : a ≡ moves.advance_end work (rows_of s.objects)
  pub plan : after ≡ moves.after_advance work (rows_of s.objects) (migrations_of limits s)

pub advanced : (limits : Limits) (s : State) (c : Option ℕ) (a : Advance) (v after : MigrationsView) (rs : List Row)
    → v ≡ migrations_of limits s → rs ≡ rows_of s.objects
    → a ≡ moves.advance_end (moves.work_of c v) rs → after ≡ moves.after_advance (moves.work_of c v) rs v
    → Advanced limits s c a after
advanced limits s c a v after rs v_is rs_is answer plan =
    let work : moves.work_of c v ≡ work_of c s = ap (moves.work_of c) v_is in
    record {
      work = work_of c s;
      of_claim = refl;
      answer = answer ∙ (rw (work, rs_is) refl);
      plan = plan ∙ (rw (work, rs_is, v_is) refl);
    }

-- something is to be prepared: nothing changes, and the worker keeps its claim
pub record PreparesNext (limits : Limits) (n : ℕ) (s : State) (c : Option ℕ) (k : KeyView) (rv : ℕ) (after : MigrationsView) : Type 0 where
  pub decision : turn_decision n s c ≡ record { decision = says (prepare k rv); claim = c }
  pub same : after ≡ migrations_of limits s

pub advance-prepare : (limits : Limits) (n : ℕ) (s : State) (c : Option ℕ) (k : KeyView) (rv : ℕ) (after : MigrationsView)
    → Advanced limits s c (advance.Prepare k rv) after → PreparesNext limits n s c k rv after
advance-prepare limits n s c k rv after a = by a.work a.of_claim a.answer a.plan
  where
    with_first : (w : Work) (o : Option Stored) → work_of c s ≡ Some w → elsewhere w.span w.target s.objects ≡ o
        → advance.Prepare k rv ≡ moves.next_step (option_map row_of o)
        → after ≡ moves.after_step w.claim (option_map row_of o) (migrations_of limits s)
        → PreparesNext limits n s c k rv after
    with_first w None held first answer plan = cc
    with_first w (Some e) held first answer plan =
        let key : k ≡ e.key = cc in
        let number : rv ≡ e.number = cc in
        record {
          decision = rw (held, first, key, number, work_of-claim c s w held) refl;
          same = plan;
        }

    by : (o : Option Work) → work_of c s ≡ o → advance.Prepare k rv ≡ moves.advance_end o (rows_of s.objects)
        → after ≡ moves.after_advance o (rows_of s.objects) (migrations_of limits s) → PreparesNext limits n s c k rv after
    by None held answer plan = cc
    by (Some w) held answer plan =
        let first = elsewhere-rows w.span w.target s.objects in
        with_first w (elsewhere w.span w.target s.objects) held refl
        (answer ∙ ap moves.next_step first)
        (plan ∙ ap (λ (o : Option Row). moves.after_step w.claim o (migrations_of limits s)) first)

-- nothing is left of the claim's span: its slot is free, and the worker has no claim
pub record Ended (limits : Limits) (n : ℕ) (s : State) (c : Option ℕ) (after : MigrationsView) : Type 0 where
  pub claim : ℕ
  pub decision : turn_decision n s c ≡ record { decision = enters range_done (note (RangeDone claim)); claim = None }
  pub changed : after ≡ migrations_of limits (note_effect (RangeDone claim) s)

pub advance-done : (limits : Limits) (n : ℕ) (s : State) (c : Option ℕ) (after : MigrationsView)
    → Advanced limits s c advance.Done after → Ended limits n s c after
advance-done limits n s c after a = by a.work a.of_claim a.answer a.plan
  where
    with_first : (w : Work) (o : Option Stored) → work_of c s ≡ Some w → elsewhere w.span w.target s.objects ≡ o
        → advance.Done ≡ moves.next_step (option_map row_of o)
        → after ≡ moves.after_step w.claim (option_map row_of o) (migrations_of limits s)
        → Ended limits n s c after
    with_first w None held first answer plan = record {
      claim = w.claim;
      decision = rw (held, first) refl;
      changed = plan;
    }
    with_first w (Some e) held first answer plan = cc

    by : (o : Option Work) → work_of c s ≡ o → advance.Done ≡ moves.advance_end o (rows_of s.objects)
        → after ≡ moves.after_advance o (rows_of s.objects) (migrations_of limits s) → Ended limits n s c after
    by None held answer plan = cc
    by (Some w) held answer plan =
        let first = elsewhere-rows w.span w.target s.objects in
        with_first w (elsewhere w.span w.target s.objects) held refl
        (answer ∙ ap moves.next_step first)
        (plan ∙ ap (λ (o : Option Row). moves.after_step w.claim o (migrations_of limits s)) first)

-- the claim is forgotten
pub record Forgotten (limits : Limits) (n : ℕ) (s : State) (c : Option ℕ) (after : MigrationsView) : Type 0 where
  pub decision : turn_decision n s c ≡ idle_turn n s (running s.migrations)
  pub same : after ≡ migrations_of limits s

pub advance-lost : (limits : Limits) (n : ℕ) (s : State) (c : Option ℕ) (after : MigrationsView)
    → Advanced limits s c advance.Lost after → Forgotten limits n s c after
advance-lost limits n s c after a = by a.work a.of_claim a.answer a.plan
  where
    with_first : (o : Option Row) → advance.Lost ≡ moves.next_step o → ⊥
    with_first None answer = cc
    with_first (Some e) answer = cc

    by : (o : Option Work) → work_of c s ≡ o → advance.Lost ≡ moves.advance_end o (rows_of s.objects)
        → after ≡ moves.after_advance o (rows_of s.objects) (migrations_of limits s) → Forgotten limits n s c after
    by None held answer plan = record { decision = rw held refl; same = plan }
    by (Some w) held answer plan = absurd (with_first (rows.elsewhere w.span w.target (rows_of s.objects)) answer)

-- ---- a worker without a claim

both : (a b : Bool) → (a && b) ≡ true → (a ≡ true) × (b ≡ true)
both true true h = (refl, refl)
both true false h = cc
both false b h = cc

-- a claim is taken
pub record Taken (limits : Limits) (n : ℕ) (s : State) (after : MigrationsView) (c : Option ℕ) : Type 0 where
  pub decision : idle_turn n s (running s.migrations) ≡ record { decision = enters claim_taken (note (Claim (s.plan.last + 1))); claim = c }
  pub changed : after ≡ migrations_of limits (note_effect (Claim (s.plan.last + 1)) s)

pub claim-taken : (limits : Limits) (n : ℕ) (s : State) (after : MigrationsView) (c : Option ℕ)
    → moves.takes_claim (migrations_of limits s) ≡ true
    → after ≡ moves.after_claim (rows_of s.objects) (migrations_of limits s)
    → c ≡ (if moves.takes_claim (migrations_of limits s) then Some (s.plan.last + 1) else None)
    → Taken limits n s after c
claim-taken limits n s after c takes plan claim = by (running s.migrations) refl (both (is_some (running s.migrations)) (may_claim s.plan) takes)
  where
    by : (o : Option Migration) → running s.migrations ≡ o → (is_some o ≡ true) × (may_claim s.plan ≡ true) → Taken limits n s after c
    by None runs may = absurd (let no = may.0 in cc)
    by (Some q) runs may =
        let room = may.1 in
        let number : c ≡ Some (s.plan.last + 1) = claim ∙ (rw takes refl) in
        record {
          decision = rw (runs, room, number) refl;
          changed = plan ∙ (rw (takes, keys-rows s.objects) refl);
        }

-- none is taken: either the migration is marked, or nothing happens
pub record Marked (limits : Limits) (n : ℕ) (s : State) (after : MigrationsView) : Type 0 where
  pub decision : idle_turn n s (running s.migrations) ≡ record { decision = enters (finished n) (entry MarkSucceeded); claim = None }
  pub changed : after ≡ migrations_of limits (entry_effect n MarkSucceeded s)

pub record Rests (limits : Limits) (n : ℕ) (s : State) (after : MigrationsView) : Type 0 where
  pub decision : idle_turn n s (running s.migrations) ≡ record { decision = says idle; claim = None }
  pub same : after ≡ migrations_of limits s

not_taken : (limits : Limits) (s : State) (q : Migration) → running s.migrations ≡ Some q → moves.takes_claim (migrations_of limits s) ≡ false → may_claim s.plan ≡ false
not_taken limits s q runs takes = (rw runs refl) ∙ takes

pub mark-done : (limits : Limits) (n : ℕ) (s : State) (after : MigrationsView)
    → moves.takes_claim (migrations_of limits s) ≡ false → moves.may_succeed (migrations_of limits s) ≡ true
    → after ≡ moves.after_mark (migrations_of limits s) → Marked limits n s after
mark-done limits n s after takes succeeds plan = by (running s.migrations) refl (both (is_some (running s.migrations)) (is_done s.plan) succeeds)
  where
    by : (o : Option Migration) → running s.migrations ≡ o → (is_some o ≡ true) × (is_done s.plan ≡ true) → Marked limits n s after
    by None runs may = absurd (let no = may.0 in cc)
    by (Some q) runs may =
        let none = not_taken limits s q runs takes in
        let over = may.1 in
        record {
          decision = rw (runs, none, over) refl;
          changed = plan ∙ (rw succeeds refl);
        }

pub mark-none : (limits : Limits) (n : ℕ) (s : State) (after : MigrationsView)
    → moves.takes_claim (migrations_of limits s) ≡ false → moves.may_succeed (migrations_of limits s) ≡ false
    → after ≡ moves.after_mark (migrations_of limits s) → Rests limits n s after
mark-none limits n s after takes succeeds plan = by (running s.migrations) refl
  where
    by : (o : Option Migration) → running s.migrations ≡ o → Rests limits n s after
    by None runs = record { decision = rw runs refl; same = plan ∙ (rw succeeds refl) }
    by (Some q) runs =
        let none = not_taken limits s q runs takes in
        let over : is_done s.plan ≡ false = (rw runs refl) ∙ succeeds in
        record { decision = rw (runs, none, over) refl; same = plan ∙ (rw succeeds refl) }

-- ---- giving back

pub record GivenBack (limits : Limits) (s : State) (c : Option ℕ) (was : Bool) (after : MigrationsView) : Type 0 where
  pub claim : ℕ
  pub decision : give_back_decision s c ≡ enters true (note (GiveBack claim))
  pub changed : after ≡ migrations_of limits (note_effect (GiveBack claim) s)
