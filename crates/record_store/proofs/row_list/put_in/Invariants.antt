use Rattle.std.proofs.Common.{◌≡◌, length}
use Rattle.std.specs.Prelude.{insert}
use Rattle.record_store.specs.Blocks.{joined}
use Rattle.record_store.proofs.Packed.{IsPassing}
use Rattle.record_store.proofs.row_list.put_in.Given as goal

abbrev pub invariant-loop-i : goal.invariant-loop-i
invariant-loop-i l = record {
  moves : IsPassing l.blocks l.i l.at l.row (insert (joined l.fn.blocks) l.fn.place l.fn.row);
  count : length l.blocks ≡ length l.fn.blocks;
}
