use Rattle.std.proofs.Common.{◌≡◌, length}
use Rattle.record_store.specs.Blocks.{joined}
use Rattle.record_store.proofs.row_list.open_blocks.Given as goal

abbrev pub invariant-loop : goal.invariant-loop
invariant-loop l = record {
  none : length (joined l.blocks.items) ≡ 0;
  count : length l.blocks.items ≡ l.counter;
}
