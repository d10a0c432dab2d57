use Rattle.std.proofs.Common.{◌≡◌, take, replicate}
use Rattle.kube_meta.specs.Plan.{Free}
use Rattle.migrate_core.proofs.slots.clear_all.Given as goal

abbrev pub invariant-loop-slot : goal.invariant-loop-slot
invariant-loop-slot l = take l.slot-index l.slots ≡ replicate l.slot-index Free
