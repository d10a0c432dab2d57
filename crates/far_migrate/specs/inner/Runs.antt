-- For private clauses: where a migration stands in memory.
use Rattle.std.specs.Prelude.{◌≡◌, ◌≤◌, ◌<◌, ◌+◌, ◌-◌, ◌*◌, ◌/◌, ℕ, List, ◌∷◌, Result, Ok, Err}
use Rattle.kj_value.specs.Json.{Json}
use Rattle.edge_io.specs.Exchanges.{Exchange}
use Rattle.place.specs.Place.{Names}
use Rattle.wire_client.specs.Calls.{lists}
use Rattle.wire_client.specs.Answers.{given}
use Rattle.wire_client.specs.Ends.{IsPage}
use Rattle.wire_client.specs.declared.end.ListPage.{ListPage}
use Rattle.far_migrate.specs.Answered.{Did}
use Rattle.far_migrate.specs.Counts.{counts_of, fault_of}
use Rattle.far_migrate.specs.Pages.{at_first, Step, Stop, most_objects, most_restarts}
use Rattle.far_migrate.specs.Pages as pages
use Rattle.far_migrate.specs.Puts.{all, failed}
use Rattle.far_migrate.specs.declared.run.Run.{Run}
use Rattle.far_migrate.specs.declared.tally.Tally.{Tally}
use Rattle.far_migrate.specs.declared.tally.FarFault.{FarFault}
use Rattle.far_migrate.specs.declared.tally.FarFault.TheVariants as faults
use Rattle.far_migrate.specs.declared.paging.Turned.{Turned}
use Rattle.far_migrate.specs.declared.paging.Turned.TheVariants as turned

abbrev pub run_of : Run → pages.Run
run_of r = record { limit = r.limit; expired = r.expired; token = r.token.bytes; last = r.last; counts = counts_of r.counts }

-- so many objects of the page aren't put back yet
abbrev pub Owes : ℕ → Tally → Type 0
Owes left t = (t.written + t.unchanged + t.gone + t.contested + left ≡ t.listed) × (t.listed ≤ most_objects)

-- between two pages all objects that were listed are put back
pub record IsRunning (r : Run) : Type 0 where
  pub owes : Owes 0 r.counts
  pub expired : r.expired ≤ most_restarts

-- what may still be listed, halved and begun again
abbrev pub left_in : Run → ℕ
left_in r = (most_restarts - r.expired) * (most_objects + 1) + (most_objects - r.counts.listed) + r.limit

abbrev pub Halved : {T : Type 0} → Run → Run → Result T FarFault → Type 0
Halved a b (Ok x) = (1 < a.limit) × (run_of b ≡ record (run_of a) { limit = a.limit / 2 })
Halved a b (Err f) = (a.limit ≤ 1) × (f ≡ faults.Answer 0)

abbrev pub Restarts : {T : Type 0} → Run → Run → Result T FarFault → Type 0
Restarts a b (Ok x) = (a.expired < most_restarts) × (run_of b ≡ at_first a.limit (a.expired + 1))
Restarts a b (Err f) = (most_restarts ≤ a.expired) × (f ≡ faults.Restarted)

-- the exchanges of one page
abbrev pub Turns : Names → Run → List Exchange → Run → Result Turned FarFault → Type 0
Turns n a es b (Ok turned.More) = Step n (run_of a) es (run_of b) × (left_in b < left_in a)
Turns n a es b (Ok turned.Done) = Stop n (run_of a) es (all (counts_of b.counts))
Turns n a es b (Err f) = Stop n (run_of a) es (failed (fault_of f))

-- the same where the page is there already
abbrev pub TakesPage : Names → Run → ListPage → List Exchange → Run → Result Turned FarFault → Type 0
TakesPage n a p es b result = (j : Json) (e : Exchange) → Did n (lists a.limit a.token.bytes) e (given j) → IsPage j p → Turns n a (e ∷ es) b result
