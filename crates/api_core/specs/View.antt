-- What a core is seen as: the limits and the boot number that it was opened with, the flags, the versions at which objects may stand, the number of the last entry, the records, and the migrations.
use Rattle.std.specs.Prelude.{ℕ, List}
use Rattle.kube_meta.specs.declared.limits.Limits.{Limits}
use Rattle.api_calls.specs.declared.flags.Flags.{Flags}
use Rattle.record_store.specs.View.{StoreView}
use Rattle.migrate_core.specs.View.{MigrationsView}

pub record CoreView : Type 0 where
  pub limits : Limits
  pub boot : ℕ
  pub flags : Flags
  pub stored : List ℕ
  pub revision : ℕ
  pub store : StoreView
  pub migrations : MigrationsView
