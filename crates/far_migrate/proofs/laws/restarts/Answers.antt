use Rattle.std.proofs.Common.{refl, arith}
use Rattle.far_migrate.specs.Counts.{restarted}
use Rattle.far_migrate.specs.Pages.{at_first, first_limit}
use Rattle.far_migrate.specs.Puts.{failed}
use Rattle.far_migrate.proofs.Expiring.{runs_expired}
use Rattle.far_migrate.proofs.laws.restarts.Goals as goal

pub returns : goal.returns
returns c n es runs = runs_expired n (at_first first_limit 0) es (failed restarted) refl runs (omega arith)
