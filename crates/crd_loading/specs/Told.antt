-- How an answer of the program tells what is refused.
use Rattle.std.specs.Prelude.{List, ℕ, Option, None, Some, Result, Ok, Err}
use Rattle.crd_loading.specs.Blame.{Blame, blame}
use Rattle.crd_loading.specs.Load.{RefusesDefinition, RefusesRules}
use Rattle.crd_loading.specs.declared.blamed.Blamed.{Blamed}
use Rattle.crd_loading.specs.declared.loading.Which.{Which}
use Rattle.crd_loading.specs.declared.loading.Which.TheVariants.{Crd, Rules}
use Rattle.crd_loading.specs.declared.loading.LoadFault.{LoadFault}
use Rattle.crd_loading.specs.declared.loading.LoadFault.TheVariants.{Refused, NoMemory}

-- of the file that it stands in
abbrev pub RefusesIn : List ℕ → List ℕ → Which → Blame → Type 0
RefusesIn crd rules Crd b = RefusesDefinition crd b
RefusesIn crd rules Rules b = RefusesRules crd rules b

-- what is refused of a definition alone; want of memory may come anywhere
abbrev pub RefusesCrd : List ℕ → LoadFault → Type 0
RefusesCrd crd NoMemory = Unit {0}
RefusesCrd crd (Refused Crd path word) = RefusesDefinition crd (blame path.bytes word.bytes)
RefusesCrd crd (Refused Rules path word) = ⊥

-- what is refused of both
abbrev pub RefusesLoading : List ℕ → List ℕ → LoadFault → Type 0
RefusesLoading crd rules NoMemory = Unit {0}
RefusesLoading crd rules (Refused file path word) = RefusesIn crd rules file (blame path.bytes word.bytes)

-- ---- for private clauses

abbrev pub blame_of : Blamed → Blame
blame_of b = blame b.path.bytes b.word.bytes

abbrev pub blamed_in : {A : Type 0} → Result A Blamed → Option Blame
blamed_in (Ok a) = None
blamed_in (Err b) = Some (blame_of b)
