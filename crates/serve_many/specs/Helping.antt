-- What a worker without a thread does on the pass that accepts.
use Rattle.std.specs.Prelude.{◌≡◌, ◌<◌, ◌+◌, ℕ, Bool, List, [], length, Option, None, Some}
use mathlib.Core.List.{IsPrefix}
use Rattle.api_calls.specs.Calls.{Server, give_back, gave_back}
use Rattle.shared_api.specs.Answered.{CallsOn}
use Rattle.shared_api.specs.declared.step.TurnStep.{TurnStep}
use Rattle.turn_cell.specs.declared.view.View.{View}
use Rattle.migrate_workers.specs.Works.{At, AreTurns, outcomes}
use Rattle.migrate_workers.specs.declared.working.WorkEnd.{WorkEnd}
use Rattle.migrate_workers.specs.declared.working.WorkEnd.TheVariants.{Stopped, Spent, Converter, NoMemory}

-- so many turns a worker without a thread has after each connection
abbrev pub turns_between : ℕ
turns_between = 64

-- it took so many turns, or fewer where the last one failed
abbrev pub TakesAll : ℕ → ℕ → WorkEnd → Type 0
TakesAll most n Stopped = ⊥
TakesAll most n Spent = n ≡ most
TakesAll most n Converter = n < most
TakesAll most n NoMemory = n < most

-- The pass v took so many turns of a worker that has no claim, and gave the claim back that it then had: it is z. The number of its tool's
-- faults was n, and is m.
pub record Helps {B : Type 0} (s : Server) (most n m : ℕ) (v z : View B) : Type 0 where
  pub steps : List TurnStep
  pub end : WorkEnd
  pub last : At B
  pub turns : AreTurns s (record { view = v; claim = None; faults = n }) (outcomes steps end) last
  pub took : TakesAll most (length steps) end
  pub held : Bool
  pub gave : CallsOn s ⊥ [] last.view z (give_back last.claim) (gave_back held)
  pub faults : last.faults ≡ m

-- and so for each of so many workers, one after another
pub data HelpsOut {B : Type 0} (s : Server) (most n : ℕ) (v : View B) : ℕ → ℕ → View B → Type 0 where
  none_yet : HelpsOut s most n v 0 n v
  one_more : (k j m : ℕ) (y z : View B) → HelpsOut s most n v k j y → Helps s most j m y z → HelpsOut s most n v (k + 1) m z

-- The pass went from v to z, where others may have added to its list: it keeps its number.
abbrev pub Goes : {B : Type 0} → View B → View B → Type 0
Goes v z = (n : ℕ) → v.number ≡ Some n → (z.number ≡ Some n) × IsPrefix v.seen z.seen

-- The pass v went on, took the turns of so many workers behind each of so many connections, and is z.
pub data Rounds {B : Type 0} (s : Server) (most idle : ℕ) (v : View B) : ℕ → View B → Type 0 where
  begins : (z : View B) → Goes v z → Rounds s most idle v 0 z
  helps : (k j m : ℕ) (x y z : View B) → Rounds s most idle v k x → HelpsOut s most j x idle m y → Goes y z → Rounds s most idle v (k + 1) z
