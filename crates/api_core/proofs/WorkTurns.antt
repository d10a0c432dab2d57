-- The ends of the turns of workers, over what a core is seen as.
use Rattle.std.proofs.Common.{◌≡◌, ◌∙◌, ℕ, ◌+◌, List, map, Option, None, Some, Bool, true, false, refl, ap, sym, subst}
use Rattle.std.specs.Prelude.{is_some, option_map, if◌then◌else◌}
use Rattle.kube_meta.specs.Key.{KeyView}
use Rattle.kube_meta.specs.Plan.{Migration, running, is_done}
use Rattle.kube_meta.specs.declared.limits.Limits.{Limits}
use Rattle.kube_meta.specs.View.{ObjectView}
use Rattle.record_store.specs.ByKey.{find as find_record}
use Rattle.record_store.specs.View.{StoreView, item_key}
use Rattle.record_store.specs.Moves.{with_new}
use Rattle.record_store.specs.Room.{touch_end, is_done as is_done_end}
use Rattle.record_store.specs.declared.answer.PutEnd.{PutEnd}
use Rattle.migrate_core.specs.declared.ends.Advance.{Advance}
use Rattle.migrate_core.specs.declared.ends.Advance.TheVariants as advance
use Rattle.migrate_core.specs.View.{MigrationsView}
use Rattle.migrate_core.specs.Moves as moves
use Rattle.migrate_core.specs.laws.MoveLaws.{after_advance-prepared}
use Rattle.api_calls.specs.Meaning.{Meaning}
use Rattle.api_calls.specs.Item.{Item}
use Rattle.api_calls.specs.State.{revision, state}
use Rattle.api_calls.specs.Legal.{legal, MaySucceed}
use Rattle.api_calls.specs.Ends as ends
use Rattle.api_calls.specs.Ends.{EndsAsDecided, bound}
use Rattle.api_calls.specs.Work.{turn_decision, touch_decision, give_back_decision, work_of}
use Rattle.api_calls.specs.inner.WorkGuards.{MayFinish}
use Rattle.api_core.specs.laws.WorkRows.{rows_of, migrations_of}
use Rattle.api_core.proofs.Works.{Advanced, advanced, claim-taken, mark-done, mark-none}
use Rattle.api_core.specs.Steps.{item_row, migrations-stand, rows-stand}
use Rattle.api_core.specs.declared.seen.Prepared.{Prepared}
use Rattle.api_core.specs.Prepared.{PreparesValue, KnownAt, FitsAt, record_for}
use Rattle.api_core.specs.Ready.{is_ready_item, IsNext, next-advance}
use Rattle.api_core.proofs.TouchSteps.{touch-missed_end, touch-done_end, touched-store, ready-in_work}
use Rattle.api_core.specs.Turned.{WorkerTurned}
use Rattle.api_core.proofs.WorkSteps.{turn-prepare, turn-done, turn-lost, turn-claimed, turn-finished, turn-idle, given-back}
use Rattle.api_core.specs.CoreOf.{CoreOf, StandsFor}

-- where all is done, the running migration may be marked
abbrev pub AreFinished : {V : Type 0} → (V → Meaning) → Type 0
AreFinished {V} meaning = (it : CoreOf V) (limits : Limits) (log : List Item) (q : Migration) → legal (meaning it.versions) limits log
    → running (state (meaning it.versions) log).migrations ≡ Some q → is_done (state (meaning it.versions) log).plan ≡ true → MaySucceed (state (meaning it.versions) log)

module _ {V : Type 0} (meaning : V → Meaning) where
  abbrev pub with_migrations : CoreOf V → MigrationsView → CoreOf V
  with_migrations x ms = record x { view = record x.view { migrations = ms } }

  abbrev pub marked_with : CoreOf V → MigrationsView → CoreOf V
  marked_with x ms = record x { view = record x.view { revision = x.view.revision + 1; migrations = ms } }

  -- what an advance of a claim answered and left
  pub record Advances (x : CoreOf V) (claim : Option ℕ) (a : Advance) (ms : MigrationsView) : Type 0 where
    pub answer : a ≡ moves.advance_end (moves.work_of claim x.view.migrations) (map item_row x.view.store.items)
    pub plan : ms ≡ moves.after_advance (moves.work_of claim x.view.migrations) (map item_row x.view.store.items) x.view.migrations

  advances : (x : CoreOf V) (claim : Option ℕ) (a : Advance) (ms : MigrationsView) → Advances x claim a ms
      → (log : List Item) → StandsFor meaning x log → Advanced x.view.limits (state (meaning x.versions) log) claim a ms
  advances x claim a ms h log st =
      advanced x.view.limits (state (meaning x.versions) log) claim a x.view.migrations ms (map item_row x.view.store.items)
      (migrations-stand (meaning x.versions) x.view log st) (rows-stand (meaning x.versions) x.view log st) h.answer h.plan

  finishes : AreFinished meaning → (x : CoreOf V) (log : List Item) → StandsFor meaning x log → MayFinish (state (meaning x.versions) log)
  finishes finished x log st = λ q runs over. finished x x.view.limits log q st.legal runs over

  -- a turn at the list of the core that was, from one at that of a core that is the same
  abbrev IsTurn : CoreOf V → (List Item → Type 0) → Option ℕ → ends.TurnEnd → Option ℕ → Type 0
  IsTurn y stands claim end left = (log : List Item) → StandsFor meaning y log → WorkerTurned stands log (turn_decision (revision log + 1) (state (meaning y.versions) log) claim) end left

  pub go-prepare : (now x : CoreOf V) (claim : Option ℕ) (k : KeyView) (rv : ℕ) (ms : MigrationsView) → x ≡ now → Advances x claim (advance.Prepare k rv) ms
      → IsTurn now (StandsFor meaning (with_migrations x ms)) claim (ends.prepare k rv) claim
  go-prepare now x claim k rv ms is h =
      subst (λ (y : CoreOf V). IsTurn y (StandsFor meaning (with_migrations x ms)) claim (ends.prepare k rv) claim) is
      (λ log st. turn-prepare (meaning x.versions) x.view log st claim k rv ms (advances x claim (advance.Prepare k rv) ms h log st))

  pub go-done : (now x : CoreOf V) (claim : Option ℕ) (ms : MigrationsView) → AreFinished meaning → x ≡ now → Advances x claim advance.Done ms
      → IsTurn now (StandsFor meaning (with_migrations x ms)) claim ends.range_done None
  go-done now x claim ms finished is h =
      subst (λ (y : CoreOf V). IsTurn y (StandsFor meaning (with_migrations x ms)) claim ends.range_done None) is
      (λ log st. turn-done (meaning x.versions) x.view log st claim ms (finishes finished x log st) (advances x claim advance.Done ms h log st))

  pub go-lost : (now x : CoreOf V) (claim : Option ℕ) (ms : MigrationsView) (stands : List Item → Type 0) (end : ends.TurnEnd) (left : Option ℕ) → x ≡ now → Advances x claim advance.Lost ms
      → IsTurn (with_migrations x ms) stands None end left → IsTurn now stands claim end left
  go-lost now x claim ms stands end left is h begun =
      subst (λ (y : CoreOf V). IsTurn y stands claim end left) is
      (λ log st.
      let lost = turn-lost (meaning x.versions) x.view log st claim ms (advances x claim advance.Lost ms h log st) in
      subst (λ t. WorkerTurned stands log t end left) (sym lost.0) (begun log lost.1))

  -- ---- without a claim

  pub record Claims (x : CoreOf V) (took : Bool) (ms : MigrationsView) (left : Option ℕ) : Type 0 where
    pub was : took ≡ moves.takes_claim x.view.migrations
    pub plan : ms ≡ moves.after_claim (map item_row x.view.store.items) x.view.migrations
    pub worker : left ≡ (if moves.takes_claim x.view.migrations then Some (x.view.migrations.plan.last + 1) else None)

  pub begin-claimed : (now x : CoreOf V) (ms : MigrationsView) (left : Option ℕ) → AreFinished meaning → x ≡ now → Claims x true ms left
      → IsTurn now (StandsFor meaning (with_migrations x ms)) None ends.claimed left
  begin-claimed now x ms left finished is h =
      subst (λ (y : CoreOf V). IsTurn y (StandsFor meaning (with_migrations x ms)) None ends.claimed left) is
      (λ log st.
      let s = state (meaning x.versions) log in
      let same = migrations-stand (meaning x.versions) x.view log st in
      let rows = rows-stand (meaning x.versions) x.view log st in
      turn-claimed (meaning x.versions) x.view log st left ms (finishes finished x log st)
      (claim-taken x.view.limits (revision log + 1) (state (meaning x.versions) log) ms left
      (ap moves.takes_claim (sym same) ∙ sym h.was)
      (h.plan ∙ ap (λ rs. moves.after_claim rs x.view.migrations) rows ∙ ap (λ (v : MigrationsView). moves.after_claim (rows_of (state (meaning x.versions) log).objects) v) same)
      (h.worker ∙ ap (λ (v : MigrationsView). if moves.takes_claim v then Some (v.plan.last + 1) else None) same)))

  -- none was taken: the plan stayed, and the worker has none
  not_claimed : (x : CoreOf V) (ms : MigrationsView) (left : Option ℕ) → Claims x false ms left → (ms ≡ x.view.migrations) × (left ≡ None)
  not_claimed x ms left h = (h.plan ∙ (rw (sym h.was) refl), h.worker ∙ (rw (sym h.was) refl))

  pub begin-finished : (now x : CoreOf V) (ms after : MigrationsView) (left : Option ℕ) → AreFinished meaning → x ≡ now → Claims x false ms left
      → true ≡ moves.may_succeed ms → after ≡ moves.after_mark ms
      → IsTurn now (StandsFor meaning (marked_with x after)) None (ends.finished (x.view.revision + 1)) left
  begin-finished now x ms after left finished is h may marked =
      subst (λ (y : CoreOf V). IsTurn y (StandsFor meaning (marked_with x after)) None (ends.finished (x.view.revision + 1)) left) is
      (λ log st.
      let stayed = not_claimed x ms left h in
      let same = migrations-stand (meaning x.versions) x.view log st in
      let same_after : ms ≡ migrations_of x.view.limits (state (meaning x.versions) log) = stayed.0 ∙ same in
      subst (λ (o : Option ℕ). WorkerTurned (StandsFor meaning (marked_with x after)) log (turn_decision (revision log + 1) (state (meaning x.versions) log) None) (ends.finished (x.view.revision + 1)) o) (sym stayed.1)
      (turn-finished (meaning x.versions) x.view log st (x.view.revision + 1) after (finishes finished x log st) refl
      (mark-done x.view.limits (revision log + 1) (state (meaning x.versions) log) after
      (ap moves.takes_claim (sym same) ∙ sym h.was) (ap moves.may_succeed (sym same_after) ∙ sym may) (marked ∙ ap moves.after_mark same_after))))

  pub begin-idle : (now x : CoreOf V) (ms after : MigrationsView) (left : Option ℕ) → x ≡ now → Claims x false ms left
      → false ≡ moves.may_succeed ms → after ≡ moves.after_mark ms
      → IsTurn now (StandsFor meaning (with_migrations x after)) None ends.idle left
  begin-idle now x ms after left is h may marked =
      subst (λ (y : CoreOf V). IsTurn y (StandsFor meaning (with_migrations x after)) None ends.idle left) is
      (λ log st.
      let stayed = not_claimed x ms left h in
      let same = migrations-stand (meaning x.versions) x.view log st in
      let same_after : ms ≡ migrations_of x.view.limits (state (meaning x.versions) log) = stayed.0 ∙ same in
      subst (λ (o : Option ℕ). WorkerTurned (StandsFor meaning (with_migrations x after)) log (turn_decision (revision log + 1) (state (meaning x.versions) log) None) ends.idle o) (sym stayed.1)
      (turn-idle (meaning x.versions) x.view log st after
      (mark-none x.view.limits (revision log + 1) (state (meaning x.versions) log) after
      (ap moves.takes_claim (sym same) ∙ sym h.was) (ap moves.may_succeed (sym same_after) ∙ sym may) (marked ∙ ap moves.after_mark same_after))))

  -- ---- giving back

  pub give_back-turn : (now x : CoreOf V) (claim : Option ℕ) (was : Bool) (ms : MigrationsView) → x ≡ now
      → was ≡ is_some (moves.work_of claim x.view.migrations) → ms ≡ moves.after_give_back (moves.work_of claim x.view.migrations) x.view.migrations
      → (log : List Item) → StandsFor meaning now log
      → EndsAsDecided bound (StandsFor meaning (with_migrations x ms)) log (give_back_decision (state (meaning now.versions) log) claim) was
  give_back-turn now x claim was ms is was_is ms_is =
      subst (λ (y : CoreOf V). (log : List Item) → StandsFor meaning y log → EndsAsDecided bound (StandsFor meaning (with_migrations x ms)) log (give_back_decision (state (meaning y.versions) log) claim) was) is
      (λ log st.
      let same = migrations-stand (meaning x.versions) x.view log st in
      let work : moves.work_of claim x.view.migrations ≡ work_of claim (state (meaning x.versions) log) = ap (moves.work_of claim) same in
      given-back (meaning x.versions) x.view log st claim was ms
      (was_is ∙ ap is_some work)
      (ms_is ∙ ap (λ o. moves.after_give_back o x.view.migrations) work
      ∙ ap (λ (v : MigrationsView). moves.after_give_back (work_of claim (state (meaning x.versions) log)) v) same))

  -- ---- with what was prepared

  pub touch-missed_turn : (now x : CoreOf V) (claim : Option ℕ) (t : ℕ) (k : KeyView) (rv at : ℕ) (ready : Bool) → x ≡ now
      → Some t ≡ option_map (λ w. w.target) (moves.work_of claim x.view.migrations)
      → ready ≡ is_ready_item rv at t (find_record item_key k now.view.store.items) → ready ≡ false
      → (log : List Item) → StandsFor meaning now log
      → WorkerTurned (StandsFor meaning now) log (touch_decision (revision log + 1) (state (meaning now.versions) log) claim k rv at) ends.missed claim
  touch-missed_turn now x claim t k rv at ready is has ready_is other log st =
      touch-missed_end (meaning now.versions) now.view log st claim t k rv at
      (has ∙ ap (λ (y : CoreOf V). option_map (λ w. w.target) (moves.work_of claim y.view.migrations)) is) (sym ready_is ∙ other)

  -- the core after a touch
  abbrev pub touched_with : CoreOf V → StoreView → MigrationsView → CoreOf V
  touched_with x store ms = record x { view = record x.view { revision = x.view.revision + 1; store = store; migrations = ms } }

  pub touch-done_turn : (now x : CoreOf V) (claim : Option ℕ) (t : ℕ) (p : Prepared) (rv : ℕ) (ready : Bool) (end : PutEnd) (store : StoreView) (ms : MigrationsView) → x ≡ now
      → Some t ≡ option_map (λ w. w.target) (moves.work_of claim x.view.migrations)
      → ready ≡ is_ready_item rv p.at t (find_record item_key p.key now.view.store.items) → ready ≡ true
      → FitsAt p.key rv p (find_record item_key p.key now.view.store.items)
      → IsNext (moves.work_of claim now.view.migrations) p.key now.view.store.items (find_record item_key p.key now.view.store.items)
      → end ≡ touch_end rv (find_record item_key p.key x.view.store.items)
      → store ≡ (if is_done_end end then with_new (x.view.revision + 1) (record_for p) x.view.store else x.view.store)
      → ms ≡ moves.after_pass (moves.work_of claim x.view.migrations) p.key x.view.migrations
      → (log : List Item) (h : ObjectView) → StandsFor meaning now log → PreparesValue (meaning now.versions) p h
      → KnownAt (meaning now.versions) log p.key rv (λ e. h ≡ e.h)
      → WorkerTurned (StandsFor meaning (touched_with x store ms)) log (touch_decision (revision log + 1) (state (meaning now.versions) log) claim p.key rv p.at) (ends.touched (x.view.revision + 1)) claim
  touch-done_turn now x claim t p rv ready end store ms is has ready_is yes_ fits next end_is store_is ms_is =
      subst (λ (y : CoreOf V).
      is_ready_item rv p.at t (find_record item_key p.key y.view.store.items) ≡ true
      → FitsAt p.key rv p (find_record item_key p.key y.view.store.items)
      → IsNext (moves.work_of claim y.view.migrations) p.key y.view.store.items (find_record item_key p.key y.view.store.items)
      → (log : List Item) (h : ObjectView) → StandsFor meaning y log → PreparesValue (meaning y.versions) p h
      → KnownAt (meaning y.versions) log p.key rv (λ e. h ≡ e.h)
      → WorkerTurned (StandsFor meaning (touched_with x store ms)) log (touch_decision (revision log + 1) (state (meaning y.versions) log) claim p.key rv p.at) (ends.touched (x.view.revision + 1)) claim) is
      (λ ready_now fits_now next_now log h st prepares known.
      let stored = touched-store rv p.at t (x.view.revision + 1) (record_for p) x.view.store store end ready_now end_is store_is in
      subst (λ (v : StoreView). WorkerTurned (StandsFor meaning (touched_with x v ms)) log (touch_decision (revision log + 1) (state (meaning x.versions) log) claim p.key rv p.at) (ends.touched (x.view.revision + 1)) claim)
      (sym stored)
      (touch-done_end (meaning x.versions) x.view log st claim t p rv h ms has ready_now prepares known fits_now next_now ms_is))
      (sym ready_is ∙ yes_) fits next

  pub touch-in_work : (now x : CoreOf V) (claim : Option ℕ) (t : ℕ) (k : KeyView) (rv at : ℕ) (ready : Bool) → x ≡ now
      → Some t ≡ option_map (λ w. w.target) (moves.work_of claim x.view.migrations)
      → ready ≡ is_ready_item rv at t (find_record item_key k now.view.store.items) → ready ≡ true
      → IsNext (moves.work_of claim now.view.migrations) k now.view.store.items (find_record item_key k now.view.store.items)
      → moves.IsInWork k (moves.work_of claim x.view.migrations)
  touch-in_work now x claim t k rv at ready is has ready_is yes_ next =
      subst (λ (y : CoreOf V). moves.IsInWork k (moves.work_of claim y.view.migrations)) (sym is)
      (ready-in_work (moves.work_of claim now.view.migrations) k now.view.store.items rv at t
      (has ∙ ap (λ (y : CoreOf V). option_map (λ w. w.target) (moves.work_of claim y.view.migrations)) is) (sym ready_is ∙ yes_) next)

  -- what was told to prepare is next, after the turn that told it
  pub go-next : (x : CoreOf V) (claim : Option ℕ) (k : KeyView) (rv : ℕ) (ms : MigrationsView) → Advances x claim (advance.Prepare k rv) ms
      → IsNext (moves.work_of claim ms) k x.view.store.items (find_record item_key k x.view.store.items)
  go-next x claim k rv ms h =
      let same : ms ≡ x.view.migrations = h.plan ∙ after_advance-prepared (moves.work_of claim x.view.migrations) (map item_row x.view.store.items) k rv x.view.migrations (sym h.answer) in
      subst (λ (v : MigrationsView). IsNext (moves.work_of claim v) k x.view.store.items (find_record item_key k x.view.store.items)) (sym same)
      (next-advance (moves.work_of claim x.view.migrations) k rv x.view.store.items (find_record item_key k x.view.store.items) h.answer)
