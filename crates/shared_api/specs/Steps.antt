-- What a worker is told of its turn.
use Rattle.std.specs.Prelude.{◌≡◌, ℕ, ◌+◌, List, Option, Result, Ok, Err}
use Rattle.kube_meta.specs.Key.{KeyView}
use Rattle.api_calls.specs.Calls.{Told, worked, failed, Failure, no_memory, converter}
use Rattle.api_calls.specs.Ends.{TurnEnd, idle, claimed, prepare, touched, missed, range_done, finished}
use Rattle.api_calls.specs.Item.{Item}
use Rattle.api_calls.specs.Meaning.{Meaning}
use Rattle.api_calls.specs.State.{revision, state}
use Rattle.api_calls.specs.Work.{turn_decision}
use Rattle.shared_api.specs.declared.step.TurnStep.{TurnStep}
use Rattle.shared_api.specs.declared.step.TurnStep.TheVariants as step
use Rattle.shared_api.specs.declared.step.WorkFault.{WorkFault}
use Rattle.shared_api.specs.declared.step.WorkFault.TheVariants as fault

-- the end of a turn, without its entry's number
abbrev pub IsStep : TurnStep → TurnEnd → Type 0
IsStep step.Idle e = e ≡ idle
IsStep step.Claimed e = e ≡ claimed
IsStep step.Touched e = (number : ℕ) × (e ≡ touched number)
IsStep step.Moved e = e ≡ missed
IsStep step.RangeDone e = e ≡ range_done
IsStep step.Finished e = (number : ℕ) × (e ≡ finished number)

abbrev pub failure_of : WorkFault → Failure
failure_of fault.Converter = converter
failure_of fault.NoMemory = no_memory

-- what a turn is told, by its result and the claim that the worker has afterwards
abbrev pub IsTold : Result TurnStep WorkFault → Option ℕ → Told → Type 0
IsTold (Ok s) left t = (e : TurnEnd) × IsStep s e × (t ≡ worked e left)
IsTold (Err f) left t = t ≡ failed (failure_of f) left

-- at a list, a worker's first turn tells it to prepare an object
abbrev pub IsToPrepare : Meaning → List Item → Option ℕ → Type 0
IsToPrepare m log claim = (k : KeyView) × (number : ℕ) × ((turn_decision (revision log + 1) (state m log) claim).decision.answer ≡ prepare k number)
