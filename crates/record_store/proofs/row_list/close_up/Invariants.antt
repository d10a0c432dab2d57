use Rattle.std.proofs.Common.{◌≡◌, length}
use Rattle.record_store.specs.Blocks.{joined}
use Rattle.record_store.proofs.Packed.{IsClosing}
use Rattle.record_store.proofs.row_list.close_up.Given as goal

abbrev pub invariant-loop-i : goal.invariant-loop-i
invariant-loop-i l = record {
  closes : IsClosing l.blocks l.i (joined l.fn.blocks);
  count : length l.blocks ≡ length l.fn.blocks;
}
