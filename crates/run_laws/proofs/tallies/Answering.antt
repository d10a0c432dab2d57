-- From how a migration ends to what `migrate` answers.
use Rattle.std.proofs.Common.{ℕ, List, Result, Ok, Err}
use Rattle.std.specs.Prelude.{IfErr}
use Rattle.edge_io.specs.Causes.{Rose}
use Rattle.api_calls.specs.Item.{Item}
use Rattle.api_calls.specs.Meaning.{Meaning}
use Rattle.place.specs.Place.{Names}
use Rattle.far_migrate.specs.Counts.{OnLink}
use Rattle.far_migrate.specs.Migrates.{tally_of}
use Rattle.far_migrate.specs.declared.tally.Tally.{Tally}
use Rattle.far_migrate.specs.declared.tally.FarFault.{FarFault}
use Rattle.far_migrate.specs.declared.tally.FarFault.TheVariants as faults
use Rattle.run_laws.specs.Ending.{MayAnswer, MayEnd}

pub answers : (m : Meaning) (n : Names) (first last : List Item) (before now : ℕ) (r : Result Tally FarFault) → IfErr r (OnLink (Rose before now)) → (Rose before now → ⊥)
    → MayEnd m n first last (tally_of r) → MayAnswer m n first last r
answers m n first last before now (Ok t) cause none ends = tt
answers m n first last before now (Err faults.LinkFault) cause none ends = none cause
answers m n first last before now (Err (faults.Answer c)) cause none ends = ends
answers m n first last before now (Err faults.Restarted) cause none ends = tt
answers m n first last before now (Err faults.NoMemory) cause none ends = tt
