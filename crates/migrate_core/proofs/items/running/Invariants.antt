use Rattle.std.proofs.Common.{◌≡◌, drop}
use Rattle.kube_meta.specs.Plan.{running}
use Rattle.migrate_core.proofs.items.running.Given as goal

abbrev pub invariant-loop-item : goal.invariant-loop-item
invariant-loop-item l = running (drop l.item-index l.items) ≡ running l.items
