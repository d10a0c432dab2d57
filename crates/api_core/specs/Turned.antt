-- How a worker's turn ended at a list, and the revision after each call that isn't a write.
use Rattle.std.specs.Prelude.{◌≡◌, ℕ, ◌+◌, List, Option}
use Rattle.migrate_core.specs.declared.ends.StartEnd.{StartEnd}
use Rattle.migrate_core.specs.declared.ends.StartEnd.TheVariants as start
use Rattle.api_calls.specs.Item.{Item}
use Rattle.api_calls.specs.Ends as ends
use Rattle.api_calls.specs.Ends.{EndsAsDecided, bound}
use Rattle.api_calls.specs.Work.{Turn}
use Rattle.api_core.specs.declared.ends.SetEnd.{SetEnd}
use Rattle.api_core.specs.declared.ends.SetEnd.TheVariants as set
use Rattle.api_core.specs.declared.ends.TrimEnd.{TrimEnd}
use Rattle.api_core.specs.declared.ends.TrimEnd.TheVariants as trim
use Rattle.api_core.specs.declared.ends.TurnEnd.{TurnEnd}
use Rattle.api_core.specs.declared.ends.TurnEnd.TheVariants as turn

-- as it is decided, and with the claim that is decided
pub record WorkerTurned (stands : List Item → Type 0) (log : List Item) (t : Turn) (end : ends.TurnEnd) (left : Option ℕ) : Type 0 where
  pub ends : EndsAsDecided bound stands log t.decision end
  pub claim : left ≡ t.claim

-- ---- the revision afterwards: what is entered has the next number

abbrev pub revision_after_set : SetEnd → ℕ → ℕ
revision_after_set (set.Done rv stored) r = rv
revision_after_set (set.Unchanged stored) r = r

abbrev pub revision_after_trim : TrimEnd → ℕ → ℕ
revision_after_trim (trim.Done rv flags stored) r = rv
revision_after_trim (trim.Unchanged flags stored) r = r
revision_after_trim (trim.Unknown v) r = r
revision_after_trim (trim.StillStored v key) r = r

abbrev pub revision_after_start : StartEnd → ℕ → ℕ
revision_after_start (start.Done target) r = r + 1
revision_after_start start.AlreadyExists r = r
revision_after_start (start.Running name) r = r
revision_after_start (start.Full room) r = r

abbrev pub revision_after_turn : TurnEnd → ℕ → ℕ
revision_after_turn turn.Idle r = r
revision_after_turn turn.Claimed r = r
revision_after_turn (turn.Prepare key rv) r = r
revision_after_turn (turn.Touched rv) r = rv
revision_after_turn turn.Moved r = r
revision_after_turn turn.RangeDone r = r
revision_after_turn (turn.Finished rv) r = rv
