-- Every call of the server: the reply of the one-thread server at a list of items, and the item that the call enters.
use Rattle.std.specs.Prelude.{◌≡◌, ℕ, ◌+◌, Bool, List, ◌++◌, Option, None, Some, Err, IsTrue}
use Rattle.kube_meta.specs.Key.{KeyView}
use Rattle.kube_meta.specs.declared.limits.Limits.{Limits}
use Rattle.api_calls.specs.Meaning.{Meaning, Request}
use Rattle.api_calls.specs.Refusal.{RefusalView}
use Rattle.api_calls.specs.Refusal as refusal
use Rattle.api_calls.specs.Item.{Item}
use Rattle.api_calls.specs.Named.{IsNamed}
use Rattle.api_calls.specs.Objects.{Stored, find}
use Rattle.api_calls.specs.State.{State, revision, state}
use Rattle.api_calls.specs.Legal.{HasFinalizer}
use Rattle.api_calls.specs.Ends.{TurnEnd, idle, prepare, missed}
use Rattle.api_calls.specs.Work.{Turn, work_of, turn_decision, work_decision, give_back_decision}
use Rattle.api_calls.specs.Pages.{Place}
use Rattle.api_calls.specs.Replies.{Answer, GetReply, RawReply, ListReply, CreateReply, ReplaceReply, DeleteReply, GroupReply, CrdReply, SetReply, TrimReply, StartReply, MigrationReply, MigrationsReply}

-- what no call changes: what the definition means, the limits, and the number of the server's start
pub record Server : Type 1 where
  pub meaning : Meaning
  pub limits : Limits
  pub boot : ℕ

-- a call; a version is told by its place
pub data Call : Type 0 where
  -- the object of a key, at a version
  get : ℕ → KeyView → Call
  -- objects at a version: those of a namespace, or all; up to a limit; from a token's place on
  list : ℕ → Option (List ℕ) → ℕ → Option Place → Call
  create : Request → Call
  -- of the object of a key
  replace : Request → KeyView → Call
  -- of the object of a key, at a version, with the request's body
  delete : ℕ → KeyView → List ℕ → Call
  -- the group, and the definition
  group : Call
  crd : Call
  -- by bodies: a change of the flags, a trim of the stored list, a start of a migration
  set_versions : List ℕ → Call
  trim : List ℕ → Call
  start : List ℕ → Call
  -- the migration of a name, and all of them
  migration : List ℕ → Call
  migrations : Call
  -- the stored text of the object of a key
  raw : KeyView → Call
  -- of a worker, by the claim that it has: a turn, and giving the claim back
  work : Option ℕ → Call
  give_back : Option ℕ → Call

-- what comes to nothing: memory is wanted, or the converter fails
pub data Failure : Type 0 where
  no_memory : Failure
  converter : Failure

-- what a call is told: of a request its answer; of a worker's turn how it ended or what it failed of, and the claim that the worker has afterwards; of giving a claim back whether it was held
pub data Told : Type 0 where
  answered : Answer → Told
  worked : TurnEnd → Option ℕ → Told
  failed : Failure → Option ℕ → Told
  gave_back : Bool → Told

-- ---- the one-thread server

-- a request's answer is such a reply
abbrev pub Answers : (Answer → Option Item → Type 0) → Told → Option Item → Type 0
Answers Reply t i = (a : Answer) × (t ≡ answered a) × Reply a i

-- a worker's turn ended as it is decided, and left the worker the claim that is decided
abbrev pub IsTurn : Turn → Told → Option Item → Type 0
IsTurn turn t i = (t ≡ worked turn.decision.answer turn.claim) × (i ≡ turn.decision.item)

-- the reply to a call at a list, the clock showing this stamp, and the item that the call enters
abbrev pub Decides : Server → List ℕ → List Item → Call → Told → Option Item → Type 0
Decides s stamp log (get v k) = Answers (GetReply s.meaning s.boot (state s.meaning log) v k)
Decides s stamp log (list v ns limit from) = Answers (ListReply s.meaning s.limits s.boot log v ns limit from)
Decides s stamp log (create r) = Answers (CreateReply s.meaning s.limits s.boot (revision log + 1) (state s.meaning log) r stamp)
Decides s stamp log (replace r k) = Answers (ReplaceReply s.meaning s.limits s.boot (revision log + 1) (state s.meaning log) r k)
Decides s stamp log (delete v k body) = Answers (DeleteReply s.meaning s.boot (revision log + 1) (state s.meaning log) v body k stamp)
Decides s stamp log group = Answers (GroupReply s.meaning (state s.meaning log))
Decides s stamp log crd = Answers (CrdReply s.meaning (state s.meaning log))
Decides s stamp log (set_versions body) = Answers (SetReply s.meaning (state s.meaning log) body)
Decides s stamp log (trim body) = Answers (TrimReply s.meaning (state s.meaning log) body)
Decides s stamp log (start body) = Answers (StartReply s.meaning s.limits (state s.meaning log) body)
Decides s stamp log (migration name) = Answers (MigrationReply s.meaning (state s.meaning log) name)
Decides s stamp log migrations = Answers (MigrationsReply s.meaning (state s.meaning log))
Decides s stamp log (raw k) = Answers (RawReply s.meaning (state s.meaning log) k)
Decides s stamp log (work claim) = IsTurn (work_decision (revision log + 1) (state s.meaning log) claim)
Decides s stamp log (give_back claim) = λ t i.
    (t ≡ gave_back (give_back_decision (state s.meaning log) claim).answer) × (i ≡ (give_back_decision (state s.meaning log) claim).item)

-- ---- what isn't decided

-- the object of a key has a finalizer, so that a delete shows it
pub record IsKept (m : Meaning) (s : State) (k : KeyView) : Type 0 where
  pub object : Stored
  pub there : find k s.objects ≡ Some object
  pub held : IsTrue m.honest → HasFinalizer object.h

-- the calls that convert: a delete does so only where the object stays
abbrev pub Converts : Meaning → State → Call → Type 0
Converts m s (get v k) = Unit {0}
Converts m s (list v ns limit from) = Unit {0}
Converts m s (create r) = Unit {0}
Converts m s (replace r k) = Unit {0}
Converts m s (delete v k body) = IsKept m s k
Converts m s group = ⊥
Converts m s crd = ⊥
Converts m s (set_versions body) = ⊥
Converts m s (trim body) = ⊥
Converts m s (start body) = ⊥
Converts m s (migration name) = ⊥
Converts m s migrations = ⊥
Converts m s (raw k) = ⊥
Converts m s (work claim) = Unit {0}
Converts m s (give_back claim) = ⊥

abbrev pub failure_refusal : Failure → RefusalView
failure_refusal no_memory = refusal.no_memory
failure_refusal converter = refusal.converter

-- what a call is told that failed: a worker keeps its claim, and giving it back can't fail
abbrev pub Fails : Failure → Call → Told → Type 0
Fails f (work claim) t = t ≡ failed f claim
Fails f (give_back claim) t = ⊥
Fails f call t = t ≡ answered (Err (failure_refusal f))

-- a worker was told to prepare the object of a key, at a list between what had been seen and this one, which has these items since
pub record IsAsked (m : Meaning) (seen log : List Item) (claim : Option ℕ) (k : KeyView) (since : List Item) : Type 0 where
  pub between : List Item
  pub number : ℕ
  pub told : (turn_decision (revision (seen ++ between) + 1) (state m (seen ++ between)) claim).decision.answer ≡ prepare k number
  pub goes_on : log ≡ (seen ++ between) ++ since

-- while a worker prepared an object, another item named its key
pub record IsMoved (m : Meaning) (seen log : List Item) (claim : Option ℕ) : Type 0 where
  pub key : KeyView
  pub since : List Item
  pub asked : IsAsked m seen log claim key since
  pub named : IsNamed key since

-- while a worker prepared an object, its claim was lost
pub record IsLost (m : Meaning) (seen log : List Item) (claim : Option ℕ) : Type 0 where
  pub key : KeyView
  pub since : List Item
  pub asked : IsAsked m seen log claim key since
  pub lost : work_of claim (state m log) ≡ None

-- How a call comes out at a list, which goes on from what its caller had seen, by items of others: mostly as it is
-- decided there. The tool's count of faults rose in the call where `rose` holds.
pub data Comes (s : Server) (rose : Type 0) (stamp : List ℕ) (seen log : List Item) : Call → Told → Option Item → Type 0 where
  decided : (c : Call) (t : Told) (i : Option Item) → Decides s stamp log c t i → Comes s rose stamp seen log c t i
  wants_memory : (c : Call) (t : Told) → Fails no_memory c t → Comes s rose stamp seen log c t None
  not_converted : (c : Call) (t : Told) → rose → Converts s.meaning (state s.meaning log) c → Fails converter c t → Comes s rose stamp seen log c t None
  -- a worker's turn that wrote nothing over what another wrote
  moved : (claim : Option ℕ) → IsMoved s.meaning seen log claim → Comes s rose stamp seen log (work claim) (worked missed claim) None
  -- a worker's turn that wrote nothing by a claim that it has no more
  lost : (claim : Option ℕ) → IsLost s.meaning seen log claim → Comes s rose stamp seen log (work claim) (worked idle None) None
