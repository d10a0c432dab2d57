-- The turns of a converter: what was to be turned, to which version, and what came of it.
use Rattle.std.specs.Prelude.{◌≡◌, ◌<◌, ℕ, ⊤, List, [], ◌∷◌, ◌++◌, Option, Some, None, Result, Ok, Err}
use Rattle.kj_value.specs.Json.{Json}
use Rattle.converters.specs.declared.converter.TurnFault.{TurnFault}
use Rattle.converters.specs.declared.converter.TurnFault.TheVariants as fault

-- what a turn came to: a document, a refusal, or a fault of the outside
pub data Answer : Type 0 where
  answered : Json → Answer
  refused : Answer
  failed : Answer

-- a document, and the version that was wanted of it, as GROUP/VERSION
pub record Turn : Type 0 where
  pub object : Json
  pub to : List ℕ
  pub answer : Answer

-- of a converter that doesn't tell its turns
abbrev pub untold : Option (List Turn)
untold = None

-- one more turn, where they are told
abbrev pub one_more : Option (List Turn) → Json → List ℕ → Answer → Option (List Turn)
one_more None x to answer = None
one_more (Some ts) x to answer = Some (ts ++ (record { object = x; to = to; answer = answer }) ∷ [])

-- the turns after a call with that result: none was made where memory was wanted
abbrev pub after_turn : {V : Type 0} → (V → Json) → Option (List Turn) → Json → List ℕ → Result V TurnFault → Option (List Turn)
after_turn json told x to (Ok v) = one_more told x to (answered (json v))
after_turn json told x to (Err (fault.Refused message)) = one_more told x to refused
after_turn json told x to (Err fault.Failed) = one_more told x to failed
after_turn json told x to (Err fault.NoMemory) = told

-- P holds where the fault is that the object was refused
abbrev pub OnRefused : Type 0 → TurnFault → Type 0
OnRefused P (fault.Refused message) = P
OnRefused P fault.Failed = ⊤
OnRefused P fault.NoMemory = ⊤

-- the count of faults rose where the outside failed, and only there
abbrev pub Counts : {V : Type 0} → ℕ → ℕ → Result V TurnFault → Type 0
Counts before now (Ok v) = now ≡ before
Counts before now (Err (fault.Refused message)) = now ≡ before
Counts before now (Err fault.Failed) = before < now
Counts before now (Err fault.NoMemory) = now ≡ before
