-- What the exchanges of a migration say by its end, over a link that never fails.
use Rattle.std.proofs.Common.{◌≢◌, ℕ, List, Result, Ok, Err, arith}
use Rattle.std.specs.Prelude.{IfOk, IfErr}
use Rattle.edge_io.specs.Causes.{Rose}
use Rattle.edge_io.specs.Exchanges.{Exchange}
use Rattle.place.specs.Place.{Names}
use Rattle.far_migrate.specs.Counts.{AddsUp, Counts, OnLink, answer, counts_of, restarted}
use Rattle.far_migrate.specs.Migrates.{Migrates, tally_of}
use Rattle.far_migrate.specs.Puts.{all, failed}
use Rattle.far_migrate.specs.Told.{EndsInList, EndsWithCode, HasExpired}
use Rattle.far_migrate.specs.declared.tally.Tally.{Tally}
use Rattle.far_migrate.specs.declared.tally.FarFault.{FarFault}
use Rattle.far_migrate.specs.declared.tally.FarFault.TheVariants as faults
use Rattle.far_server.specs.Upgrades.{EndSays}

never_rose : Rose 0 0 → ⊥
never_rose rose = omega (arith, rose)

pub end_says : (n : Names) (es : List Exchange) (r : Result Tally FarFault) → ((t : Counts) → Migrates n es (all t) → EndsInList n es t) → (Migrates n es (failed restarted) → HasExpired n 17 es)
    → ((c : ℕ) → c ≢ 0 → Migrates n es (failed (answer c)) → EndsWithCode es c) → IfOk r (λ t. AddsUp (counts_of t)) → IfErr r (OnLink (Rose 0 0)) → Migrates n es (tally_of r)
    → EndSays n es (tally_of r)
end_says n es (Ok t) whole old coded sum cause m = (sum, whole (counts_of t) m)
end_says n es (Err faults.LinkFault) whole old coded sum cause m = never_rose cause
end_says n es (Err (faults.Answer code)) whole old coded sum cause m = λ some. coded code some m
end_says n es (Err faults.Restarted) whole old coded sum cause m = old m
end_says n es (Err faults.NoMemory) whole old coded sum cause m = tt
