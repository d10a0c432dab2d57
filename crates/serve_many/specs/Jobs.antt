-- For private clauses: connections and workers as jobs.
use Rattle.std.specs.Prelude.{◌≡◌, ◌+◌, ◌<◌, ℕ, List, [], Option, None, Some, IfSome}
use Rattle.api_calls.specs.Meaning.{Meaning}
use Rattle.edge_io.specs.Connections.{Origin, Ending, HasAllLeft, HasNumberOf}
use Rattle.serve_spans.specs.Owners.{TakesTurns}
use Rattle.serve_spans.specs.Spans.{Linked}
use Rattle.shared_api.specs.Passes.{ApiOf, IsOf, Known}
use Rattle.shared_api.specs.declared.cell.CoreBase.{CoreBase}
use Rattle.turn_cell.specs.declared.view.View.{View}
use Rattle.serve_many.specs.Answered.{IsAnswered, Sides, front_of}

-- nothing was read of a connection, and nothing was written to it
pub record IsUntouched (origin : Option Origin) (left : Option (List ℕ)) (read_faults : ℕ) (number : Option ℕ) (written flushed : Option (List ℕ)) (write_faults : ℕ) : Type 0 where
  pub whole : HasAllLeft origin left
  pub of : HasNumberOf origin number
  pub empty : IfSome written (λ bytes. bytes ≡ [])
  pub handed_on : flushed ≡ written
  pub unread : read_faults ≡ 0
  pub unwritten : write_faults ≡ 0

-- the pass v served the connection of this origin, which ended so, and is z
abbrev pub Serves : {V A I O : Type 0} → (A → ℕ) → Sides I O → (V → Meaning) → CoreBase V → Option (List ℕ) → View (CoreBase V) → Option Origin → View (CoreBase V) → Ending → Type 0
Serves count w meaning base told v origin z e = (n : ℕ) → v.number ≡ Some n → Linked (IsAnswered count w (front_of meaning base told)) n v origin z e

-- the pass v took a worker's turns, and is z
abbrev pub Worked : {B : Type 0} → View B → View B → Type 0
Worked v z = (m : ℕ) → v.number ≡ Some m → TakesTurns m v z

-- the job of the pass p is done, which is r: it served the connection of this origin, which ended so
abbrev pub Finishes : {V A I O : Type 0} → (A → ℕ) → Sides I O → (V → Meaning) → Option (List ℕ) → Known (CoreBase V) A → Option Origin → Known (CoreBase V) A → Ending → Type 0
Finishes {V} count w meaning told p origin r e = (a : ApiOf (CoreBase V)) → IsOf meaning a p → IsOf meaning a r × Serves count w meaning a.base told p.view origin r.view e

-- the worker's job of the pass p is done, which is r
abbrev pub Retires : {V A : Type 0} → (V → Meaning) → Known (CoreBase V) A → Known (CoreBase V) A → Type 0
Retires {V} meaning p r = (a : ApiOf (CoreBase V)) → IsOf meaning a p → IsOf meaning a r × Worked p.view r.view

-- of the connections that were asked for, if a number was, so many are left after so many
abbrev pub IsLeft : Option ℕ → ℕ → Option ℕ → Type 0
IsLeft connections count None = connections ≡ None
IsLeft connections count (Some j) = connections ≡ Some (count + j)
