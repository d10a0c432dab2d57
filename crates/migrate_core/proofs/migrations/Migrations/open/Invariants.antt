use Rattle.std.proofs.Common.{◌≡◌, replicate}
use Rattle.kube_meta.specs.Plan.{Free}
use Rattle.migrate_core.proofs.migrations.Migrations.open.Given as goal

abbrev pub invariant-loop-place : goal.invariant-loop-place
invariant-loop-place l = l.slots.items ≡ replicate l._place Free
