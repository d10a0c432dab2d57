-- What a call asks for and answers, in the words of the history, and what is decided of it.
use Rattle.std.specs.Prelude.{ℕ, ◌+◌, Bool, List, Option}
use Rattle.kube_meta.specs.View.{ObjectView}
use Rattle.kube_meta.specs.declared.limits.Limits.{Limits}
use Rattle.api_calls.specs.Meaning.{Meaning}
use Rattle.api_calls.specs.Item.{Item}
use Rattle.api_calls.specs.State.{revision, state}
use Rattle.api_calls.specs.Versions.{versions_of}
use Rattle.api_calls.specs.Ends.{WriteEnd, SetEnd, TrimEnd, StartEnd, TurnEnd, Decision}
use Rattle.api_calls.specs.Writes.{create_commit, replace_commit, delete_commit, mark_commit, release_commit}
use Rattle.api_calls.specs.Settings.{set_decision, trim_decision, start_decision}
use Rattle.api_calls.specs.Work.{Turn, turn_decision, touch_decision, give_back_decision}
use Rattle.api_core.specs.Ends.{create_end, replace_end, delete_end, release_end, set_end, trim_end, start_end, turn_end}
use Rattle.core_laws.specs.declared.calls.Call.{Call}
use Rattle.core_laws.specs.declared.calls.Call.TheVariants as call
use Rattle.core_laws.specs.declared.calls.Answer.{Answer}
use Rattle.core_laws.specs.declared.calls.Answer.TheVariants as answer

-- ---- answers

-- an answer; that of a worker's turn tells the claim that the worker has afterwards
pub data Told : Type 0 where
  wrote : WriteEnd → Told
  set : SetEnd → Told
  trimmed : TrimEnd → Told
  started : StartEnd → Told
  worked : TurnEnd → Option ℕ → Told
  gave_back : Bool → Told

abbrev pub told : Answer → Told
told (answer.Create end) = wrote (create_end end)
told (answer.Replace end) = wrote (replace_end end)
told (answer.Delete end) = wrote (delete_end end)
told (answer.Release end) = wrote (release_end end)
told (answer.SetVersions end) = set (set_end end)
told (answer.Trim end) = trimmed (trim_end end)
told (answer.Start end) = started (start_end end)
told (answer.Work end claim) = worked (turn_end end) claim
told (answer.GiveBack was) = gave_back was

-- ---- decisions

-- the same decision, with the answer as it is told
abbrev pub told_as : {A : Type 0} → (A → Told) → Decision A → Decision Told
told_as f d = record { answer = f d.answer; item = d.item }

abbrev pub as_turn : Turn → Decision Told
as_turn t = record { answer = worked t.decision.answer t.claim; item = t.decision.item }

-- what is decided of a call at a list; h is the hub value that its prepared text means, and a mark has the deletion stamp
abbrev pub decided : Meaning → Limits → List Item → ObjectView → List ℕ → Call → Decision Told
decided m limits log h stamp (call.Create v new) = told_as wrote (create_commit limits (revision log + 1) (state m log) v new.at new.key h new.weight)
decided m limits log h stamp (call.Replace v expected new) = told_as wrote (replace_commit limits (revision log + 1) (state m log) v new.at new.key expected h new.weight)
decided m limits log h stamp (call.Delete v key expected) = told_as wrote (delete_commit (revision log + 1) (state m log) v key expected)
decided m limits log h stamp (call.Mark v key expected new) = told_as wrote (mark_commit (revision log + 1) (state m log) v new.at key expected stamp)
decided m limits log h stamp (call.Release v key expected) = told_as wrote (release_commit (revision log + 1) (state m log) v key expected)
decided m limits log h stamp (call.SetVersions flags) = told_as set (set_decision (state m log) flags)
decided m limits log h stamp (call.Trim keep) = told_as trimmed (trim_decision (state m log) (versions_of keep))
decided m limits log h stamp (call.Start name) = told_as started (start_decision limits (state m log) name.bytes)
decided m limits log h stamp (call.Work claim) = as_turn (turn_decision (revision log + 1) (state m log) claim)
decided m limits log h stamp (call.Touch claim expected new) = as_turn (touch_decision (revision log + 1) (state m log) claim new.key expected new.at)
decided m limits log h stamp (call.GiveBack claim) = told_as gave_back (give_back_decision (state m log) claim)
