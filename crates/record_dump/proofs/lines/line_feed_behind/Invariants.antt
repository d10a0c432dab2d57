use Rattle.std.proofs.Common.{take}
use Rattle.record_dump.specs.Restores.{AreInLine}
use Rattle.record_dump.proofs.lines.line_feed_behind.Given as goal

-- no line ends so far
abbrev pub invariant-loop-i : goal.invariant-loop-i
invariant-loop-i l = AreInLine (take l.i l.bytes)
