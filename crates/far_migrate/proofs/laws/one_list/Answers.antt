use Rattle.far_migrate.proofs.Telling.{ends_in_list}
use Rattle.far_migrate.specs.Pages.{first_limit}
use Rattle.far_migrate.proofs.laws.one_list.Goals as goal

pub returns : goal.returns
returns c n es t runs = ends_in_list n first_limit 0 es t runs
