use Rattle.std.proofs.Common.{refl}
use Rattle.far_migrate.specs.Pages.{at_first, first_limit}
use Rattle.far_migrate.specs.Puts.{all}
use Rattle.far_migrate.proofs.Sums.{runs_add}
use Rattle.far_migrate.proofs.laws.all_counted.Goals as goal

pub returns : goal.returns
returns c n es t runs = runs_add n (at_first first_limit 0) es (all t) runs refl
