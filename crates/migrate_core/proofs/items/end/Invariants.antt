use Rattle.std.proofs.Common.{◌≡◌, take, drop, ◌++◌, is_some}
use Rattle.std.specs.Prelude.{◌||◌}
use Rattle.kube_meta.specs.Plan.{ended, running}
use Rattle.migrate_core.proofs.items.end.Given as goal

abbrev pub invariant-loop-item : goal.invariant-loop-item
invariant-loop-item l = record {
  items : take l.item-index l.items ++ ended l.condition (drop l.item-index l.items) ≡ ended l.condition l.fn.items;
  was : (l.was || is_some (running (drop l.item-index l.items))) ≡ is_some (running l.fn.items);
}
