-- How an answer of the program tells what is refused.
use Rattle.std.specs.Prelude.{◌≡◌, Option, None, Some, Result, Ok, Err}
use Rattle.crd_reading.specs.Refusal.{Refusal}
use Rattle.crd_reading.specs.declared.found.Found.{Found}
use Rattle.crd_reading.specs.declared.reading.DefinitionFault.{DefinitionFault}
use Rattle.crd_reading.specs.declared.reading.DefinitionFault.TheVariants.{Refused, NoMemory}

-- the path and the word of a refusal; want of memory may come anywhere
abbrev pub NamesDefinitionFault : Option Refusal → DefinitionFault → Type 0
NamesDefinitionFault o NoMemory = Unit {0}
NamesDefinitionFault None (Refused path word) = ⊥
NamesDefinitionFault (Some r) (Refused path word) = (path.bytes ≡ r.path.text) × (word.bytes ≡ r.why)

-- ---- for private clauses

abbrev pub found_of : Found → Refusal
found_of f = record { path = record { text = f.path.bytes; is_named = f.named }; why = f.word.bytes }

-- what is refused, where something is
abbrev pub refused_in : {A : Type 0} → Result A Found → Option Refusal
refused_in (Ok a) = None
refused_in (Err f) = Some (found_of f)
