use Rattle.std.proofs.Common.{sym, ◌∙◌, arith}
use Rattle.kept_entries.proofs.Steps.{ends_less, ends_greater}
use Rattle.kept_entries.proofs.order.compare_paths.Goals as goal

pub returns-then-a-b : goal.returns-then-a-b
returns-then-a-b c = sym (sym c.loop-i.invariant ∙ ends_less _ _ c.loop-i.i (omega arith) (omega arith))

pub returns-then-b-a : goal.returns-then-b-a
returns-then-b-a c = sym (sym c.loop-i.invariant ∙ ends_greater _ _ c.loop-i.i (omega arith) (omega arith))
