-- A turn with a prepared object: what is decided of it, and what its touch makes of the objects and the plan.
use Rattle.std.specs.Prelude.{◌≡◌, ℕ, true, false, Option, None, Some}
use Rattle.std.proofs.Common.{refl, ap, ◌∙◌}
use Rattle.kube_meta.specs.Key.{KeyView}
use Rattle.kube_meta.specs.Plan.{Span, Migration, running, span_of}
use Rattle.api_calls.specs.Item.{entry, Touch}
use Rattle.api_calls.specs.Objects.{find}
use Rattle.api_calls.specs.State.{State, target_or, target_of}
use Rattle.api_calls.specs.Ends.{idle, touched, missed, says, enters}
use Rattle.api_calls.specs.Work.{Work, work_in, work_under, work_of, is_ready, ready_turn, touch_decision}
use Rattle.api_core.specs.laws.WorkRows.{work_of-claim}

-- ---- decisions

pub touch-lost : (n : ℕ) (s : State) (c : Option ℕ) (k : KeyView) (rv at : ℕ) → work_of c s ≡ None → touch_decision n s c k rv at ≡ record { decision = says idle; claim = None }
touch-lost n s c k rv at held = ap (ready_turn n s k rv at) held

pub touch-missed : (n : ℕ) (s : State) (c : Option ℕ) (k : KeyView) (rv at : ℕ) (w : Work) → work_of c s ≡ Some w → is_ready w rv at (find k s.objects) ≡ false
    → touch_decision n s c k rv at ≡ record { decision = says missed; claim = c }
touch-missed n s c k rv at w held ready = ap (ready_turn n s k rv at) held ∙ (rw (ready, work_of-claim c s w held) refl)

pub touch-done : (n : ℕ) (s : State) (c : Option ℕ) (k : KeyView) (rv at : ℕ) (w : Work) → work_of c s ≡ Some w → is_ready w rv at (find k s.objects) ≡ true
    → touch_decision n s c k rv at ≡ record { decision = enters (touched n) (entry (Touch k w.claim)); claim = c }
touch-done n s c k rv at w held ready = ap (ready_turn n s k rv at) held ∙ (rw (ready, work_of-claim c s w held) refl)

-- ---- what a touch changes

-- the work is of the migration that runs
pub work_of-target : (c : Option ℕ) (s : State) (w : Work) → work_of c s ≡ Some w → target_of s ≡ w.target
work_of-target None s w is = cc
work_of-target (Some c) s w is = by (running s.migrations) is
  where
    with_span : (q : Migration) (o : Option Span) → work_in c q.target o ≡ Some w → q.target ≡ w.target
    with_span q None is = cc
    with_span q (Some r) is =
        let it : record { claim = c; span = r; target = q.target } ≡ w = cc in
        ap (λ (x : Work). x.target) it

    by : (o : Option Migration) → work_under o c s.plan.slots ≡ Some w → target_or o s.flags.storage ≡ w.target
    by None is = cc
    by (Some q) is = with_span q (span_of c s.plan.slots) is
