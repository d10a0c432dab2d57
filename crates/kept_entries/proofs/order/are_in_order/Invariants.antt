use Rattle.std.proofs.Common.{◌≡◌, drop}
use Rattle.kept_entries.specs.Entry.{are_in_order}
use Rattle.kept_entries.proofs.order.are_in_order.Given as goal

abbrev pub invariant-loop-i : goal.invariant-loop-i
invariant-loop-i l = are_in_order (drop l.i l.entries) ≡ are_in_order l.entries
