-- What the caller knows of a call, at the list that the core stands for.
use Rattle.std.specs.Prelude.{◌≡◌, ℕ, ◌+◌, ◌≤◌, true, List, ◌++◌, Option, None, Some, IsTrue}
use Rattle.kube_meta.specs.Key.{KeyView}
use Rattle.kube_meta.specs.Names.{is_name}
use Rattle.kube_meta.specs.View.{ObjectView}
use Rattle.api_calls.specs.Meaning.{Meaning}
use Rattle.api_calls.specs.Item.{Item}
use Rattle.api_calls.specs.Objects.{Stored, find}
use Rattle.api_calls.specs.State.{revision, state}
use Rattle.api_calls.specs.Legal.{IsNew}
use Rattle.api_calls.specs.Versions.{AreFlags}
use Rattle.api_calls.specs.Ends.{prepare}
use Rattle.api_calls.specs.Work.{turn_decision}
use Rattle.api_core.specs.declared.seen.Prepared.{Prepared}
use Rattle.api_core.specs.Prepared.{IsSized, PreparesValue, KnownAt, Replacing, Marking, IsFree, IsEnding}
use Rattle.core_laws.specs.declared.calls.Call.{Call}
use Rattle.core_laws.specs.declared.calls.Call.TheVariants as call

-- what was prepared has the key and the weight of the object of a key, where that stands at the expected number
abbrev pub Matches : KeyView → ℕ → Prepared → Option Stored → Type 0
Matches k expected p None = Unit {0}
Matches k expected p (Some e) = e.number ≡ expected → (p.key ≡ k) × (p.weight ≡ e.weight)

-- at a turn before, or at this one, a worker with the claim was told to prepare the object of a key, which stood at a number
pub record WasAsked (m : Meaning) (log : List Item) (claim : Option ℕ) (k : KeyView) (number : ℕ) : Type 0 where
  pub before : List Item
  pub since : List Item
  pub goes_on : before ++ since ≡ log
  pub told : (turn_decision (revision before + 1) (state m before) claim).decision.answer ≡ prepare k number

-- A prepared text means h. Of the object that stands under the key nothing has to be known but where it stands at the
-- expected number: what was known of it when it was looked at holds then.
abbrev pub IsKnown : Meaning → List Item → ObjectView → List ℕ → Call → Type 0
IsKnown m log h stamp (call.Create v new) = IsSized new × PreparesValue m new h × (IsTrue m.honest → IsNew h)
IsKnown m log h stamp (call.Replace v expected new) = IsSized new × PreparesValue m new h × KnownAt m log new.key expected (Replacing new h)
IsKnown m log h stamp (call.Delete v key expected) = KnownAt m log key expected IsFree
IsKnown m log h stamp (call.Mark v key expected new) = IsSized new × PreparesValue m new h × KnownAt m log key expected (Marking h stamp)
    × Matches key expected new (find key (state m log).objects)
IsKnown m log h stamp (call.Release v key expected) = KnownAt m log key expected IsEnding
IsKnown m log h stamp (call.SetVersions flags) = AreFlags m.count flags
IsKnown m log h stamp (call.Trim keep) = keep.len ≤ 8
IsKnown m log h stamp (call.Start name) = is_name name.bytes ≡ true
IsKnown m log h stamp (call.Work claim) = Unit {0}
IsKnown m log h stamp (call.Touch claim expected new) = IsSized new × PreparesValue m new h × KnownAt m log new.key expected (λ e. h ≡ e.h)
    × Matches new.key expected new (find new.key (state m log).objects)
    × WasAsked m log claim new.key expected
IsKnown m log h stamp (call.GiveBack claim) = Unit {0}
