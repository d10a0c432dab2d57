-- What workers add.
use Rattle.std.proofs.Common.{ℕ, ◌≡◌, ◌+◌, ◌<◌, Bool, true, false, List, [], ◌∷◌, Option, None, Some, refl, ap, sym, ◌∙◌, subst}
use Rattle.std.specs.Prelude.{if◌then◌else◌}
use Rattle.kube_meta.specs.Plan.{Migration, running, may_claim, is_done}
use Rattle.api_calls.specs.Calls.{Server, Call, Told, Comes, decided, wants_memory, not_converted, moved, lost, Decides, work, give_back, gave_back}
use Rattle.api_calls.specs.Ends.{idle, claimed, finished, says, enters}
use Rattle.api_calls.specs.Item.{Item, Logged, entry, note, Claim, MarkSucceeded, items}
use Rattle.api_calls.specs.Objects.{Stored, elsewhere}
use Rattle.api_calls.specs.State.{State, revision, state}
use Rattle.api_calls.specs.Work.{Turn, Work, work_of, idle_turn, claim_turn, work_turn, whole_turn, work_decision, give_back_of, give_back_decision}
use Rattle.shared_api.specs.Answered.{CallsOn}
use Rattle.shared_api.specs.declared.step.TurnStep.{TurnStep}
use Rattle.turn_cell.specs.declared.view.View.{View}
use Rattle.migrate_workers.specs.Works.{At, Outcome, AreTurns, outcomes, Works}
use Rattle.migrate_workers.specs.declared.working.WorkEnd.{WorkEnd}
use Rattle.serve_spans.specs.Owners.{IsWorkIf, TakesTurns}
use Rattle.serve_spans.proofs.Alone.{takes_none, takes_more}
use Rattle.serve_many.specs.Jobs.{Worked}

-- ---- what is decided of a worker's call

choose : (a b : Bool) (x y z : Turn) → IsWorkIf x.decision.item → IsWorkIf y.decision.item → IsWorkIf z.decision.item
    → IsWorkIf (if a then x else if b then y else z).decision.item
choose true b x y z p q r = p
choose false true x y z p q r = q
choose false false x y z p q r = r

idle_work : (n : ℕ) (s : State) (m : Option Migration) → IsWorkIf (idle_turn n s m).decision.item
idle_work n s None = tt
idle_work n s (Some m) =
    let x : Turn = record { decision = enters claimed (note (Claim (s.plan.last + 1))); claim = Some (s.plan.last + 1) } in
    let y : Turn = record { decision = enters (finished n) (entry MarkSucceeded); claim = None } in
    let z : Turn = record { decision = says idle; claim = None } in
    choose (may_claim s.plan) (is_done s.plan) x y z tt tt tt

turn_work : (n : ℕ) (w : Work) (o : Option Stored) → IsWorkIf (work_turn n w o).decision.item
turn_work n w None = tt
turn_work n w (Some e) = tt

whole_work : (n : ℕ) (s : State) (o : Option Work) → IsWorkIf (whole_turn n s o).decision.item
whole_work n s None = idle_work n s (running s.migrations)
whole_work n s (Some w) = turn_work n w (elsewhere w.span w.target s.objects)

back_work : (o : Option Work) → IsWorkIf (give_back_of o).item
back_work None = tt
back_work (Some w) = tt

decides_turn : (s : Server) (stamp : List ℕ) (log : List Item) (c : Option ℕ) (call : Call) (t : Told) (i : Option Item) → call ≡ work c → Decides s stamp log call t i → IsWorkIf i
decides_turn s stamp log c call t i is d =
    let e = subst (λ (k : Call). Decides s stamp log k t i) is d in
    subst (λ (j : Option Item). IsWorkIf j) (sym e.1) (whole_work (revision log + 1) (state s.meaning log) (work_of c (state s.meaning log)))

decides_back : (s : Server) (stamp : List ℕ) (log : List Item) (c : Option ℕ) (call : Call) (t : Told) (i : Option Item) → call ≡ give_back c → Decides s stamp log call t i → IsWorkIf i
decides_back s stamp log c call t i is d =
    let e = subst (λ (k : Call). Decides s stamp log k t i) is d in
    subst (λ (j : Option Item). IsWorkIf j) (sym e.1) (back_work (work_of c (state s.meaning log)))

comes_work : (s : Server) (rose : Type 0) (stamp : List ℕ) (seen log : List Item) (call : Call) (t : Told) (i : Option Item)
    → ((u : Told) (j : Option Item) → Decides s stamp log call u j → IsWorkIf j) → Comes s rose stamp seen log call t i → IsWorkIf i
comes_work s rose stamp seen log call t i by (decided c u j is) = by u j is
comes_work s rose stamp seen log call t i by (wants_memory c u is) = tt
comes_work s rose stamp seen log call t i by (not_converted c u r converts is) = tt
comes_work s rose stamp seen log call t i by (moved claim is) = tt
comes_work s rose stamp seen log call t i by (lost claim is) = tt

-- ---- turns

module _ {B : Type 0} (m : ℕ) (v : View B) (named : v.number ≡ Some m) where
  turn_more : (s : Server) (rose : Type 0) (p q : View B) (c : Option ℕ) (t : Told) → TakesTurns m v p → CallsOn s rose [] p q (work c) t → TakesTurns m v q
  turn_more s rose p q c t h calls = takes_more m v p q calls.log calls.item named h calls.turned
      (comes_work s rose [] (items p.seen) (items calls.log) (work c) t calls.item (λ u j d. decides_turn s [] (items calls.log) c (work c) u j refl d) calls.comes)

  back_more : (s : Server) (p q : View B) (c : Option ℕ) (t : Told) → TakesTurns m v p → CallsOn s ⊥ [] p q (give_back c) t → TakesTurns m v q
  back_more s p q c t h calls = takes_more m v p q calls.log calls.item named h calls.turned
      (comes_work s ⊥ [] (items p.seen) (items calls.log) (give_back c) t calls.item (λ u j d. decides_back s [] (items calls.log) c (give_back c) u j refl d) calls.comes)

  turns_more : (s : Server) (p : At B) (os : List Outcome) (q : At B) → TakesTurns m v p.view → AreTurns s p os q → TakesTurns m v q.view
  turns_more s p [] q h is = subst (λ (r : At B). TakesTurns m v r.view) is h
  turns_more s p (o ∷ os) q h turns =
      let r : At B = turns.0 in
      turns_more s r os q (turn_more s (p.faults < r.faults) p.view r.view p.claim turns.1.told h turns.1.calls) turns.2

  works_more : (s : Server) (most : ℕ) (p q : View B) (j k : ℕ) (end : WorkEnd) {G : Type 0} (answers : G → TurnStep → Bool → G → Type 0) (before after : G) → TakesTurns m v p
      → Works s most p q j k end answers before after → TakesTurns m v q
  works_more s most p q j k end answers before after h works =
      back_more s works.last.view q works.last.claim (gave_back works.held)
      (turns_more s (record { view = p; claim = None; faults = j }) (outcomes works.ran.steps end) works.last h works.ran.turns) works.gave

pub worked_none : {B : Type 0} (v : View B) → Worked v v
worked_none v m named = takes_none m v

-- a worker worked once more
pub worked_more : {B : Type 0} (v p q : View B) (s : Server) (most j k : ℕ) (end : WorkEnd) {G : Type 0} (answers : G → TurnStep → Bool → G → Type 0) (before after : G) → Worked v p
    → Works s most p q j k end answers before after → Worked v q
worked_more v p q s most j k end answers before after worked works m named = works_more m v named s most p q j k end answers before after (worked m named) works
