-- The answers of a converter that has them in a list.
use Rattle.std.specs.Prelude.{◌≡◌, List, [], ◌∷◌, Result, Ok, Err}
use Rattle.kj_value.specs.Json.{Json}
use Rattle.converters.specs.Turns.{Answer, answered, refused, failed}
use Rattle.converters.specs.declared.converter.TurnFault.{TurnFault}
use Rattle.converters.specs.declared.converter.TurnFault.TheVariants as fault

-- the next answer is taken, and where none is left, it failed
abbrev pub Takes : List Answer → List Answer → Answer → Type 0
Takes [] now a = (now ≡ []) × (a ≡ failed)
Takes (b ∷ bs) now a = (now ≡ bs) × (a ≡ b)

-- a turn with that result takes the next answer, but where memory was wanted none
abbrev pub TakesNext : {V : Type 0} → (V → Json) → List Answer → List Answer → Result V TurnFault → Type 0
TakesNext json before now (Ok v) = Takes before now (answered (json v))
TakesNext json before now (Err (fault.Refused message)) = Takes before now refused
TakesNext json before now (Err fault.Failed) = Takes before now failed
TakesNext json before now (Err fault.NoMemory) = now ≡ before
