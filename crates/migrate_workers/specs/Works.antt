-- What a worker does: its turns, one after another, and giving its claim back.
use Rattle.std.specs.Prelude.{◌≡◌, ◌<◌, ℕ, Bool, true, false, List, [], ◌∷◌, Option, None, Result, Ok, Err, length}
use Rattle.api_calls.specs.Calls.{Server, Told, work, give_back, gave_back}
use Rattle.turn_cell.specs.declared.view.View.{View}
use Rattle.shared_api.specs.Answered.{CallsOn}
use Rattle.shared_api.specs.Steps.{IsTold}
use Rattle.shared_api.specs.declared.step.TurnStep.{TurnStep}
use Rattle.shared_api.specs.declared.step.TurnStep.TheVariants.{Idle}
use Rattle.shared_api.specs.declared.step.WorkFault.{WorkFault}
use Rattle.shared_api.specs.declared.step.WorkFault.TheVariants as fault
use Rattle.migrate_workers.specs.declared.working.WorkEnd.{WorkEnd}
use Rattle.migrate_workers.specs.declared.working.WorkEnd.TheVariants as ended

abbrev pub Outcome : Type 0
Outcome = Result TurnStep WorkFault

-- a gate's question, with its answer
abbrev pub Question : Type 0
Question = TurnStep × Bool

-- what the pass knows, the worker's claim, and the number of the tool's faults
pub record At (B : Type 0) : Type 0 where
  pub view : View B
  pub claim : Option ℕ
  pub faults : ℕ

-- one turn is a call of the pass
pub record IsTurn {B : Type 0} (s : Server) (p q : At B) (o : Outcome) : Type 0 where
  pub told : Told
  pub is : IsTold o q.claim told
  pub calls : CallsOn s (p.faults < q.faults) [] p.view q.view (work p.claim) told

-- turns, one after another, each where the one before left the worker
abbrev pub AreTurns : {B : Type 0} → Server → At B → List Outcome → At B → Type 0
AreTurns s p [] q = p ≡ q
AreTurns s p (o ∷ os) q = (r : At _) × IsTurn s p r o × AreTurns s r os q

-- the turns that ended so: the last of them failed where the end is a fault
abbrev pub outcomes : List TurnStep → WorkEnd → List Outcome
outcomes [] ended.Stopped = []
outcomes [] ended.Spent = []
outcomes [] ended.Converter = Err fault.Converter ∷ []
outcomes [] ended.NoMemory = Err fault.NoMemory ∷ []
outcomes (s ∷ ss) end = Ok s ∷ outcomes ss end

-- what the gate was asked before each turn, first with `last`: it said no exactly where it stopped the worker
abbrev pub asked : TurnStep → List TurnStep → WorkEnd → List Question
asked last [] ended.Stopped = (last, false) ∷ []
asked last [] ended.Spent = []
asked last [] ended.Converter = (last, true) ∷ []
asked last [] ended.NoMemory = (last, true) ∷ []
asked last (s ∷ ss) end = (last, true) ∷ asked s ss end

-- a gate was asked these questions, one after another, each as the answer before left it
abbrev pub Asks : {G : Type 0} → (G → TurnStep → Bool → G → Type 0) → G → List Question → G → Type 0
Asks answers g [] h = g ≡ h
Asks {G} answers g (q ∷ qs) h = (m : G) × answers g q.0 q.1 m × Asks answers m qs h

-- it is spent exactly after so many turns
abbrev pub IsCounted : ℕ → ℕ → WorkEnd → Type 0
IsCounted most n ended.Stopped = n < most
IsCounted most n ended.Spent = n ≡ most
IsCounted most n ended.Converter = n < most
IsCounted most n ended.NoMemory = n < most

-- a worker's turns, up to so many
pub record Ran {B G : Type 0} (s : Server) (most : ℕ) (p q : At B) (end : WorkEnd) (answers : G → TurnStep → Bool → G → Type 0) (before after : G) : Type 0 where
  pub steps : List TurnStep
  pub turns : AreTurns s p (outcomes steps end) q
  pub counted : IsCounted most (length steps) end
  pub questions : Asks answers before (asked Idle steps end) after

-- a worker without a claim ran, and then gave its claim back
pub record Works {B G : Type 0} (s : Server) (most : ℕ) (v z : View B) (n m : ℕ) (end : WorkEnd) (answers : G → TurnStep → Bool → G → Type 0) (before after : G) : Type 0 where
  pub last : At B
  pub ran : Ran s most (record { view = v; claim = None; faults = n }) last end answers before after
  pub held : Bool
  pub gave : CallsOn s ⊥ [] last.view z (give_back last.claim) (gave_back held)
  pub faults : last.faults ≡ m

-- for a private clause
abbrev pub end_of_fault : WorkFault → WorkEnd
end_of_fault fault.Converter = ended.Converter
end_of_fault fault.NoMemory = ended.NoMemory
