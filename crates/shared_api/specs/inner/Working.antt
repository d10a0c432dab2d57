-- For private clauses: the turns of a worker.
use Rattle.std.specs.Prelude.{◌≡◌, ℕ, ◌+◌, ◌<◌, Bool, true, false, List, Option, None, Some}
use Rattle.kube_meta.specs.Key.{KeyView}
use Rattle.api_calls.specs.Calls.{Server}
use Rattle.api_calls.specs.Ends.{TurnEnd, idle, claimed, prepare, touched, missed, range_done, finished}
use Rattle.api_calls.specs.Item.{Logged, Item, note, Claim, items}
use Rattle.api_calls.specs.Meaning.{Meaning}
use Rattle.api_calls.specs.Objects.{Stored, find}
use Rattle.api_calls.specs.State.{revision, state}
use Rattle.api_calls.specs.Work.{Turn, turn_decision, touch_decision}
use Rattle.api_calls.specs.inner.WorkGuards.{IsPrepared}
use Rattle.api_core.specs.Keeps.{KeepsObject}
use Rattle.api_core.specs.Prepared.{PreparesValue, seen_item}
use Rattle.api_core.specs.declared.seen.Prepared.{Prepared}
use Rattle.api_core.specs.declared.seen.Seen.{Seen}
use Rattle.turn_cell.specs.declared.view.View.{View}
use Rattle.shared_api.specs.Steps.{IsStep}
use Rattle.shared_api.specs.inner.Turning.{Writes}
use Rattle.shared_api.specs.declared.step.Begun.{Begun}
use Rattle.shared_api.specs.declared.step.Begun.TheVariants as begun
use Rattle.shared_api.specs.declared.step.TurnStep.{TurnStep}

-- a claim's number; 0 where there is none
abbrev pub number_of : Option ℕ → ℕ
number_of None = 0
number_of (Some c) = c

-- an item that is there; any, where none is
abbrev pub item_or : Option Item → Item
item_or None = note (Claim 0)
item_or (Some i) = i

-- an end that enters an item
abbrev pub is_entered : TurnEnd → Bool
is_entered idle = false
is_entered claimed = true
is_entered (prepare k rv) = false
is_entered (touched n) = true
is_entered missed = false
is_entered range_done = true
is_entered (finished n) = true

-- what is decided of a first turn, and of a second one
abbrev pub first_of : Meaning → List Item → Option ℕ → Turn
first_of m log claim = turn_decision (revision log + 1) (state m log) claim

abbrev pub second_of : Meaning → List Item → Option ℕ → KeyView → ℕ → ℕ → Turn
second_of m log claim k rv at = touch_decision (revision log + 1) (state m log) claim k rv at

-- a copy of the object of a key, with the storage version
pub record IsCopy (m : Meaning) (log : List Item) (k : KeyView) (target : ℕ) (seen : Seen) : Type 0 where
  pub object : Stored
  pub there : find k (state m log).objects ≡ Some object
  pub keeps : KeepsObject m (seen_item seen) object
  pub storage : target ≡ (state m log).flags.storage
  pub known : target < m.count

-- what a first turn tells of its end
abbrev pub Tells : Meaning → List Item → TurnEnd → Begun → Type 0
Tells m log e (begun.Ended s) = IsStep s e
Tells m log e (begun.Asked rv target seen) = (k : KeyView) × (e ≡ prepare k rv) × IsCopy m log k target seen
Tells m log e begun.NoMemory = (k : KeyView) × (rv : ℕ) × (e ≡ prepare k rv)

-- a first turn, which leaves the worker a claim
pub record BeginsTurn {B : Type 0} (s : Server) (v z : View B) (claim left : Option ℕ) (b : Begun) : Type 0 where
  pub log : List Logged
  pub writes : Writes s v z log (first_of s.meaning (items log) claim).decision.item
  pub tells : Tells s.meaning (items log) (first_of s.meaning (items log) claim).decision.answer b
  pub leaves : left ≡ (first_of s.meaning (items log) claim).claim

-- the object that a worker was told to prepare at a list is prepared, for the migration's target
pub record IsReady (m : Meaning) (log : List Item) (claim : Option ℕ) (rv : ℕ) (p : Prepared) : Type 0 where
  pub asked : IsPrepared claim p.key rv (state m log)
  pub target : p.at ≡ asked.work.target
  pub there : find p.key (state m log).objects ≡ Some asked.object
  pub weight : p.weight ≡ asked.object.weight
  pub value : PreparesValue m p asked.object.h

-- a second turn
pub record Touches {B : Type 0} (s : Server) (v z : View B) (claim left : Option ℕ) (k : KeyView) (rv at : ℕ) (r : TurnStep) : Type 0 where
  pub log : List Logged
  pub writes : Writes s v z log (second_of s.meaning (items log) claim k rv at).decision.item
  pub step : IsStep r (second_of s.meaning (items log) claim k rv at).decision.answer
  pub leaves : left ≡ (second_of s.meaning (items log) claim k rv at).claim
