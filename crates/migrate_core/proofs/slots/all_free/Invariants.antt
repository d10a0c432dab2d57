use Rattle.std.proofs.Common.{◌≡◌, drop, not}
use Rattle.std.specs.List.{list_any}
use Rattle.kube_meta.specs.Plan.{is_free}
use Rattle.migrate_core.proofs.slots.all_free.Given as goal

abbrev pub invariant-loop-slot : goal.invariant-loop-slot
invariant-loop-slot l = list_any (λ s. not (is_free s)) (drop l.slot-index l.slots) ≡ list_any (λ s. not (is_free s)) l.slots
