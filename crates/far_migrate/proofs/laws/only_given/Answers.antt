use Rattle.std.proofs.Common.{[]}
use Rattle.far_migrate.specs.Pages.{at_first, first_limit}
use Rattle.far_migrate.proofs.Founded.{runs_founded}
use Rattle.far_migrate.proofs.laws.only_given.Goals as goal

pub returns : goal.returns
returns c n es h runs = runs_founded n (at_first first_limit 0) es h [] runs
