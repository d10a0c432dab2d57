use Rattle.std.proofs.Common.{refl}
use Rattle.far_migrate.specs.Counts.{answer}
use Rattle.far_migrate.specs.Pages.{at_first, first_limit}
use Rattle.far_migrate.specs.Puts.{failed}
use Rattle.far_migrate.proofs.Codes.{runs_code}
use Rattle.far_migrate.proofs.laws.last_code.Goals as goal

pub returns : goal.returns
returns c n es d some runs = runs_code n (at_first first_limit 0) es (failed (answer d)) d refl some runs
