-- The steps of a drill, and the turns of its worker.
use Rattle.std.specs.Prelude.{◌≡◌, ◌≢◌, ℕ, ◌+◌, List, [], Option, None}
use Rattle.api_calls.specs.Calls.{Server}
use Rattle.api_calls.specs.Ends.{grown, idle}
use Rattle.api_calls.specs.State.{revision, state}
use Rattle.api_calls.specs.Work.{Turn as WorkersTurn, work_decision}
use Rattle.drill_requests.specs.declared.steps.Step.{Step}
use Rattle.drill_requests.specs.declared.steps.Step.TheVariants.{CreateSpoke, CreateHub, Edit, Delete, Turn, Switch}
use Rattle.drill_requests.specs.Bodies.{spoke_version, hub_version, spoke_body, hub_body}
use Rattle.drill_steps.specs.Calling.{Tally, CountsCreate, Edits, CountsDelete, Switches}
use Rattle.drill_steps.specs.Counting.{no_counts, one_more, with_turn}
use Rattle.drill_requests.specs.Draws.{drawn, third_state, step_of}

-- the state of the generator, how often the storage version was switched, the claim of the worker, the history and the counts
pub record Point : Type 0 where
  pub drawing : ℕ
  pub switches : ℕ
  pub claim : Option ℕ
  pub tally : Tally

-- nothing was done, and nothing is entered
abbrev pub opening : ℕ → Point
opening start = record { drawing = start; switches = 0; claim = None; tally = record { log = []; counts = no_counts } }

-- ---- the worker

-- what is decided of its turn
abbrev pub turn_at : Server → Point → WorkersTurn
turn_at s p = work_decision (revision p.tally.log + 1) (state s.meaning p.tally.log) p.claim

-- where the turn leads
abbrev pub turned : Server → Point → Point
turned s p = record p {
  claim = (turn_at s p).claim;
  tally = record { log = grown p.tally.log (turn_at s p).decision.item; counts = with_turn (turn_at s p).decision.answer p.tally.counts };
}

-- turns until one has nothing to do
pub data Rests (s : Server) : Point → Point → Type 0 where
  last_turn : (p q : Point) → (turn_at s p).decision.answer ≡ idle → q ≡ turned s p → Rests s p q
  one_more_turn : (p q : Point) → (turn_at s p).decision.answer ≢ idle → Rests s (turned s p) q → Rests s p q

-- ---- a step

abbrev pub Does : Server → Step → Point → Point → Type 0
Does s (CreateSpoke n t) p q = CountsCreate s spoke_version (spoke_body n t) p.tally q.tally × (q ≡ record p { tally = q.tally })
Does s (CreateHub n t) p q = CountsCreate s hub_version (hub_body n t) p.tally q.tally × (q ≡ record p { tally = q.tally })
Does s (Edit n t) p q = Edits s n t p.tally q.tally × (q ≡ record p { tally = q.tally })
Does s (Delete n) p q = CountsDelete s n p.tally q.tally × (q ≡ record p { tally = q.tally })
Does s Turn p q = q ≡ turned s p
Does s Switch p q = Switches s p.switches p.tally q.tally × (q ≡ record p { switches = one_more p.switches; tally = q.tally })

-- the three draws of a step, and then the step
abbrev pub TakesStep : Server → Point → Point → Type 0
TakesStep s p q = Does s (step_of (drawn p.drawing)) (record p { drawing = third_state p.drawing }) q

-- so many steps, one after the other
pub data TakesSteps (s : Server) (p : Point) : ℕ → Point → Type 0 where
  no_step : TakesSteps s p 0 p
  one_more_step : (n : ℕ) (mid q : Point) → TakesSteps s p n mid → TakesStep s mid q → TakesSteps s p (n + 1) q
