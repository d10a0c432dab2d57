-- What the migrations are seen as.
use Rattle.std.specs.Prelude.{ℕ, List}
use Rattle.kube_meta.specs.Plan.{Migration, Plan}

-- the migrations in the order of their starts, the plan of the one that runs, and how many may ever be started
pub record MigrationsView : Type 0 where
  pub items : List Migration
  pub plan : Plan
  pub limit : ℕ
