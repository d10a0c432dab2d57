-- What a migration over a server in memory exchanged, and what its exchanges say.
use Rattle.std.specs.Prelude.{◌≢◌, ⊤, List}
use Rattle.kube_meta.specs.declared.limits.Limits.{Limits}
use Rattle.edge_io.specs.Exchanges.{Exchange}
use Rattle.api_calls.specs.Item.{Item}
use Rattle.api_calls.specs.Meaning.{Meaning}
use Rattle.place.specs.Place.{Names}
use Rattle.wire_client.specs.Far.{Chain, Server}
use Rattle.far_migrate.specs.Counts.{AddsUp, answer, link, memory, restarted}
use Rattle.far_migrate.specs.Migrates.{Migrates}
use Rattle.far_migrate.specs.Puts.{Handled, all, failed}
use Rattle.far_migrate.specs.Told.{EndsInList, EndsWithCode, HasExpired}
use Rattle.far_laws.specs.Dumped.{IsKnown}
use Rattle.far_laws.specs.GivenBack.{GivesBack}
use Rattle.far_laws.specs.Keeping.{keeping}
use Rattle.far_laws.specs.Speaking.{AreNames}

-- What the exchanges say, by the end: a tally is that of one whole list and adds up, a link in memory never fails, a code is that of the last
-- answer, and of the lists seventeen were too old.
abbrev pub EndSays : Names → List Exchange → Handled → Type 0
EndSays n es (all t) = AddsUp t × EndsInList n es t
EndSays n es (failed link) = ⊥
EndSays n es (failed (answer code)) = code ≢ 0 → EndsWithCode es code
EndSays n es (failed restarted) = HasExpired n 17 es
EndSays n es (failed memory) = ⊤

-- These exchanges, which lead from one history to the other, are those of a migration that came to this. However it ends, what the server
-- entered by them left each object its hub value, where it is known what values mean.
pub record Upgrades (m : Meaning) (limits : Limits) (far : Server) (n : Names) (first last : List Item) (h : Handled) : Type 0 where
  pub exchanges : List Exchange
  pub chain : Chain far first exchanges last
  pub migrates : Migrates n exchanges h
  pub says : EndSays n exchanges h
  pub keeps : AreNames n → IsKnown m limits last → GivesBack m → Chain (keeping m far) first exchanges last
