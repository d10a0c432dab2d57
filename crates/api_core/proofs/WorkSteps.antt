-- A worker's turn on a core that stands for a list, by how it ended.
use Rattle.std.specs.Prelude.{◌≡◌, ℕ, ◌+◌, Bool, List, Option, None, Some, is_some}
use Rattle.std.proofs.Common.{refl, ap, sym, ◌∙◌, subst, arith}
use Rattle.kube_meta.specs.Key.{KeyView}
use Rattle.migrate_core.specs.declared.ends.Advance.TheVariants as advance
use Rattle.migrate_core.specs.View.{MigrationsView}
use Rattle.migrate_core.specs.Moves as moves
use Rattle.api_calls.specs.Meaning.{Meaning}
use Rattle.api_calls.specs.Item.{Item, entry, note, Claim, RangeDone, GiveBack, MarkSucceeded}
use Rattle.api_calls.specs.State.{State, next_number, revision, state}
use Rattle.api_calls.specs.Legal.{guard}
use Rattle.api_calls.specs.Ends.{TurnEnd, idle, claimed, prepare, range_done, finished, EndsAsDecided, bound, says, enters}
use Rattle.api_calls.specs.Work.{Work, Turn, work_of, turn_decision, give_back_of, give_back_decision}
use Rattle.api_calls.specs.inner.WorkGuards.{MayFinish, turn-guard, give_back-guard}
use Rattle.api_core.specs.View.{CoreView}
use Rattle.api_core.specs.Stands.{Stands}
use Rattle.api_core.specs.laws.WorkRows.{migrations_of}
use Rattle.api_core.proofs.Works.{Advanced, advance-prepare, advance-done, advance-lost, Taken, Marked, Rests}
use Rattle.api_core.specs.Steps.{stands-still, stands-same, number-stand}
use Rattle.api_core.specs.Turned.{WorkerTurned}

module _ (m : Meaning) (c : CoreView) (log : List Item) (st : Stands m c log) where
  abbrev s : State
  s = state m log

  abbrev n : ℕ
  n = revision log + 1

  abbrev WithMigrations : MigrationsView → List Item → Type 0
  WithMigrations ms = Stands m (record c { migrations = ms })

  noted_number : next_number log ≡ c.revision + 1
  noted_number = number-stand m c log st

  -- the guard of an item of a decided turn
  guarded : (w : Option ℕ) (t : Turn) (i : Item) → MayFinish s → turn_decision n s w ≡ t → t.decision.item ≡ Some i → guard m c.limits s i
  guarded w t i finish is item = turn-guard m c.limits n s w i finish (ap (λ (u : Turn). u.decision.item) is ∙ item)

  -- from the decision, which is known, to a turn that ended so
  turned : (stands : List Item → Type 0) (d t : Turn) (end : TurnEnd) (claim : Option ℕ) → d ≡ t → WorkerTurned stands log t end claim → WorkerTurned stands log d end claim
  turned stands d t end claim is h = subst (λ (u : Turn). WorkerTurned stands log u end claim) (sym is) h

  -- ---- with a claim

  pub turn-prepare : (w : Option ℕ) (k : KeyView) (rv : ℕ) (ms : MigrationsView) → Advanced c.limits s w (advance.Prepare k rv) ms
      → WorkerTurned (WithMigrations ms) log (turn_decision n s w) (prepare k rv) w
  turn-prepare w k rv ms a =
      let p = advance-prepare c.limits n s w k rv ms a in
      turned (WithMigrations ms) (turn_decision n s w) (record { decision = says (prepare k rv); claim = w }) (prepare k rv) w p.decision
      (record { ends = (refl, stands-same m c log ms st p.same); claim = refl })

  pub turn-done : (w : Option ℕ) (ms : MigrationsView) → MayFinish s → Advanced c.limits s w advance.Done ms
      → WorkerTurned (WithMigrations ms) log (turn_decision n s w) range_done None
  turn-done w ms finish a =
      let p = advance-done c.limits n s w ms a in
      turned (WithMigrations ms) (turn_decision n s w) (record { decision = enters range_done (note (RangeDone p.claim)); claim = None }) range_done None p.decision (record {
        ends = (
          refl,
          stands-still m c log (note (RangeDone p.claim)) c.flags c.stored c.revision ms st
              (guarded w (record { decision = enters range_done (note (RangeDone p.claim)); claim = None }) (note (RangeDone p.claim)) finish p.decision refl)
              (record { objects = refl; past = refl }) noted_number (omega arith) st.present.flags st.present.stored p.changed,
        );
        claim = refl;
      })

  -- a claim that isn't held any more is forgotten: the turn is that of a worker without one
  pub turn-lost : (w : Option ℕ) (ms : MigrationsView) → Advanced c.limits s w advance.Lost ms → (turn_decision n s w ≡ turn_decision n s None) × WithMigrations ms log
  turn-lost w ms a =
      let p = advance-lost c.limits n s w ms a in
      (p.decision, stands-same m c log ms st p.same)

  -- ---- without a claim

  pub turn-claimed : (w : Option ℕ) (ms : MigrationsView) → MayFinish s → Taken c.limits n s ms w
      → WorkerTurned (WithMigrations ms) log (turn_decision n s None) claimed w
  turn-claimed w ms finish p =
      turned (WithMigrations ms) (turn_decision n s None) (record { decision = enters claimed (note (Claim (s.plan.last + 1))); claim = w }) claimed w p.decision (record {
        ends = (
          refl,
          stands-still m c log (note (Claim (s.plan.last + 1))) c.flags c.stored c.revision ms st
              (guarded None (record { decision = enters claimed (note (Claim (s.plan.last + 1))); claim = w }) (note (Claim (s.plan.last + 1))) finish p.decision refl)
              (record { objects = refl; past = refl }) noted_number (omega arith) st.present.flags st.present.stored p.changed,
        );
        claim = refl;
      })

  pub turn-finished : (r : ℕ) (ms : MigrationsView) → MayFinish s → r ≡ c.revision + 1 → Marked c.limits n s ms
      → WorkerTurned (Stands m (record c { revision = r; migrations = ms })) log (turn_decision n s None) (finished r) None
  turn-finished r ms finish next p =
      let number : r ≡ n = next ∙ ap (λ (k : ℕ). k + 1) st.revision in
      turned (Stands m (record c { revision = r; migrations = ms })) (turn_decision n s None) (record { decision = enters (finished n) (entry MarkSucceeded); claim = None }) (finished r) None p.decision (record {
        ends = (
          ap (λ (k : ℕ). finished k) number,
          stands-still m c log (entry MarkSucceeded) c.flags c.stored r ms st
              (guarded None (record { decision = enters (finished n) (entry MarkSucceeded); claim = None }) (entry MarkSucceeded) finish p.decision refl)
              (record { objects = refl; past = refl }) (omega (arith, noted_number, next)) (omega (arith, next)) st.present.flags st.present.stored p.changed,
        );
        claim = refl;
      })

  pub turn-idle : (ms : MigrationsView) → Rests c.limits n s ms → WorkerTurned (WithMigrations ms) log (turn_decision n s None) idle None
  turn-idle ms p =
      turned (WithMigrations ms) (turn_decision n s None) (record { decision = says idle; claim = None }) idle None p.decision
      (record { ends = (refl, stands-same m c log ms st p.same); claim = refl })

  -- ---- giving back

  pub given-back : (w : Option ℕ) (was : Bool) (ms : MigrationsView) → was ≡ is_some (work_of w s)
      → ms ≡ moves.after_give_back (work_of w s) (migrations_of c.limits s)
      → EndsAsDecided bound (WithMigrations ms) log (give_back_decision s w) was
  given-back w was ms was_is ms_is = by (work_of w s) refl was_is ms_is
    where
      by : (o : Option Work) → work_of w s ≡ o → was ≡ is_some o → ms ≡ moves.after_give_back o (migrations_of c.limits s)
          → EndsAsDecided bound (WithMigrations ms) log (give_back_of o) was
      by None held was_is ms_is = (was_is, stands-same m c log ms st ms_is)
      by (Some v) held was_is ms_is = (
        was_is,
        stands-still m c log (note (GiveBack v.claim)) c.flags c.stored c.revision ms st
            (give_back-guard m c.limits s w (note (GiveBack v.claim)) (ap (λ (o : Option Work). (give_back_of o).item) held))
            (record { objects = refl; past = refl }) noted_number (omega arith) st.present.flags st.present.stored ms_is,
      )
