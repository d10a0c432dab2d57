-- A drill on a server that was opened for a definition, and how turns end.
use Rattle.std.proofs.Common.{◌≡◌, ◌≢◌, ℕ, List, [], Option, None, refl, ap, sym, subst}
use Rattle.kube_meta.specs.declared.limits.TheConstants.Limits.{STANDING}
use Rattle.api_calls.specs.Ends.{TurnEnd, idle, claimed, touched, missed, range_done, finished}
use Rattle.api_calls.specs.Item.{Item, items}
use Rattle.api_calls.specs.Legal.{legal}
use Rattle.api_calls.specs.Meaning.{Meaning}
use Rattle.turn_cell.specs.Views.{IsAlone, opening_view}
use Rattle.turn_cell.specs.declared.view.View.{View}
use Rattle.shared_api.specs.Base.{server_of}
use Rattle.shared_api.specs.Passes.{ApiOf}
use Rattle.shared_api.specs.Steps.{IsStep}
use Rattle.shared_api.specs.declared.cell.CoreBase.{CoreBase}
use Rattle.shared_api.specs.declared.step.TurnStep.{TurnStep}
use Rattle.shared_api.specs.declared.step.TurnStep.TheVariants as step
use Rattle.drill_steps.specs.declared.counts.Counts.{Counts}
use Rattle.drill_steps.specs.declared.worker.Progress.{Progress}
use Rattle.drill_steps.specs.Calling.{Lists}
use Rattle.drill_steps.specs.Counting.{no_counts}
use Rattle.drill_steps.specs.inner.Drilled.{point_of}
use Rattle.drill_steps.specs.Drilling.{Tells, drilled, summary}
use Rattle.drill_steps.specs.Steps.{Point, opening, TakesSteps, Rests}

pub first_alone : {B : Type 0} (base : B) (v : View B) → v ≡ opening_view base → IsAlone v
first_alone {B = B} base v new = subst (λ (w : View B). IsAlone w) (sym new) refl

-- where a drill stands at first
abbrev pub first : ℕ → Counts → Progress
first start counts = record { drawing = start; switches = 0; worker = record { claim = None }; counts = counts }

pub tells : {V : Type 0} (meaning : V → Meaning) (a : ApiOf (CoreBase V)) (v : View (CoreBase V)) (versions : V) (start count : ℕ) (none : Counts) (p q : Progress) (mid after : List Item)
    (objects : ℕ) (revision text : List ℕ)
    → a.base ≡ record { versions = versions; limits = STANDING; boot = 0 } → v ≡ opening_view a.base → none ≡ no_counts
    → TakesSteps (server_of meaning a.base) (point_of (first start none) (items v.seen)) count (point_of p mid)
    → Rests (server_of meaning a.base) (point_of p mid) (point_of q after)
    → Lists (server_of meaning a.base) after objects revision → legal (meaning a.base.versions) a.base.limits after → text ≡ summary q.counts objects revision
    → Tells (drilled (meaning versions)) start count text
tells {V = V} meaning a v versions start count none p q mid after objects revision text base new nothing steps rests lists l is = record {
  counts = q.counts;
  objects = objects;
  revision = revision;
  drills = record {
    stepped = point_of p mid;
    steps = subst (λ (b : CoreBase V). TakesSteps (server_of meaning b) (opening start) count (point_of p mid)) base
        (subst (λ (k : Counts). TakesSteps (server_of meaning a.base) (record { drawing = start; switches = 0; claim = None; tally = record { log = []; counts = k } }) count (point_of p mid)) nothing
        (subst (λ (w : View (CoreBase V)). TakesSteps (server_of meaning a.base) (point_of (first start none) (items w.seen)) count (point_of p mid)) new steps));
    rested = point_of q after;
    rests = subst (λ (b : CoreBase V). Rests (server_of meaning b) (point_of p mid) (point_of q after)) base rests;
    counted = refl;
    lists = subst (λ (b : CoreBase V). Lists (server_of meaning b) after objects revision) base lists;
    is_legal = subst (λ (b : CoreBase V). legal (meaning b.versions) b.limits after) base l;
  };
  told = is;
}

-- ---- turns

pub is_idle : (s : TurnStep) (e : TurnEnd) → IsStep s e → s ≡ step.Idle → e ≡ idle
is_idle step.Idle e told is = told
is_idle step.Claimed e told is = absurd cc
is_idle step.Touched e told is = absurd cc
is_idle step.Moved e told is = absurd cc
is_idle step.RangeDone e told is = absurd cc
is_idle step.Finished e told is = absurd cc

pub not_idle : (s : TurnStep) (e : TurnEnd) → IsStep s e → s ≢ step.Idle → e ≢ idle
not_idle step.Idle e told other = absurd (other refl)
not_idle step.Claimed e told other = λ is. cc
not_idle step.Touched e told other = λ is. let entered : e ≡ touched told.0 = told.1 in cc
not_idle step.Moved e told other = λ is. cc
not_idle step.RangeDone e told other = λ is. cc
not_idle step.Finished e told other = λ is. let entered : e ≡ finished told.0 = told.1 in cc
