-- What is decided of a worker's turn, and which claim it leaves the worker. The next number is n.
use Rattle.std.specs.Prelude.{ℕ, ◌+◌, Bool, true, false, not, ◌&&◌, Option, None, Some, nat_eq, if◌then◌else◌}
use Rattle.kube_meta.specs.Key.{KeyView}
use Rattle.kube_meta.specs.Plan.{Migration, running, may_claim, is_done}
use Rattle.kube_meta.specs.Work as work
pub use Rattle.kube_meta.specs.Work.{Work, work_in, work_under}
use Rattle.api_calls.specs.Item.{entry, note, Touch, MarkSucceeded, Claim, RangeDone, GiveBack}
use Rattle.api_calls.specs.Objects.{Stored, find, elsewhere}
use Rattle.api_calls.specs.State.{State}
use Rattle.api_calls.specs.Ends.{TurnEnd, idle, claimed, prepare, touched, missed, range_done, finished, Decision, says, enters}

-- what is decided of a turn, and the worker's claim afterwards
pub record Turn : Type 0 where
  pub decision : Decision TurnEnd
  pub claim : Option ℕ

-- a claim that isn't in a held slot of the running migration is forgotten
abbrev pub work_of : Option ℕ → State → Option Work
work_of c s = work.work_of c s.migrations s.plan.slots

-- without a claim: one is taken, or the migration is marked where all is done
abbrev pub claim_turn : ℕ → State → Turn
claim_turn n s =
    if may_claim s.plan then record { decision = enters claimed (note (Claim (s.plan.last + 1))); claim = Some (s.plan.last + 1) }
    else if is_done s.plan then record { decision = enters (finished n) (entry MarkSucceeded); claim = None }
    else record { decision = says idle; claim = None }

abbrev pub idle_turn : ℕ → State → Option Migration → Turn
idle_turn n s None = record { decision = says idle; claim = None }
idle_turn n s (Some m) = claim_turn n s

-- ---- the turn in two steps: what to prepare, and then with what was prepared

abbrev pub prepare_turn : Work → Option Stored → Turn
prepare_turn w None = record { decision = enters range_done (note (RangeDone w.claim)); claim = None }
prepare_turn w (Some e) = record { decision = says (prepare e.key e.number); claim = Some w.claim }

abbrev pub first_turn : ℕ → State → Option Work → Turn
first_turn n s None = idle_turn n s (running s.migrations)
first_turn n s (Some w) = prepare_turn w (elsewhere w.span w.target s.objects)

-- a worker's turn with nothing prepared
abbrev pub turn_decision : ℕ → State → Option ℕ → Turn
turn_decision n s c = first_turn n s (work_of c s)

-- the prepared object stands at its number and elsewhere, and was prepared for the target
abbrev pub is_ready : Work → ℕ → ℕ → Option Stored → Bool
is_ready w rv at None = false
is_ready w rv at (Some e) = nat_eq e.number rv && not (nat_eq e.at w.target) && nat_eq at w.target

abbrev pub ready_turn : ℕ → State → KeyView → ℕ → ℕ → Option Work → Turn
ready_turn n s k rv at None = record { decision = says idle; claim = None }
ready_turn n s k rv at (Some w) =
    if is_ready w rv at (find k s.objects) then record { decision = enters (touched n) (entry (Touch k w.claim)); claim = Some w.claim }
    else record { decision = says missed; claim = Some w.claim }

-- a worker's turn with the object of a key, which was prepared at a number for the version `at`
abbrev pub touch_decision : ℕ → State → Option ℕ → KeyView → ℕ → ℕ → Turn
touch_decision n s c k rv at = ready_turn n s k rv at (work_of c s)

-- ---- the one-thread server, which touches what it prepares

abbrev pub work_turn : ℕ → Work → Option Stored → Turn
work_turn n w None = record { decision = enters range_done (note (RangeDone w.claim)); claim = None }
work_turn n w (Some e) = record { decision = enters (touched n) (entry (Touch e.key w.claim)); claim = Some w.claim }

abbrev pub whole_turn : ℕ → State → Option Work → Turn
whole_turn n s None = idle_turn n s (running s.migrations)
whole_turn n s (Some w) = work_turn n w (elsewhere w.span w.target s.objects)

abbrev pub work_decision : ℕ → State → Option ℕ → Turn
work_decision n s c = whole_turn n s (work_of c s)

-- ---- giving a claim back: whether it was in a held slot. The worker has none afterwards

abbrev pub give_back_of : Option Work → Decision Bool
give_back_of None = says false
give_back_of (Some w) = enters true (note (GiveBack w.claim))

abbrev pub give_back_decision : State → Option ℕ → Decision Bool
give_back_decision s c = give_back_of (work_of c s)
