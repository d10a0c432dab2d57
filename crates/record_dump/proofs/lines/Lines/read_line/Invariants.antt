use Rattle.std.proofs.Common.{◌≤◌, ◌+◌, ◌-◌, length, take}
use Rattle.record_dump.specs.Restores.{AreInLine, most_bytes}
use Rattle.record_dump.proofs.Reading.{Took}
use Rattle.record_dump.proofs.lines.Lines.read_line.Given as goal

-- no line ends among what was looked at
abbrev pub invariant-loop-len : goal.invariant-loop-len
invariant-loop-len g l = record {
  took : Took (g.S.Source.left l.fn.input) (g.S.Source.left l.input) l.fn.self l.self;
  within : l.seen ≤ length l.self;
  inside : AreInLine (take l.seen l.self);
  later : g.S.Source.faults l.fn.input ≤ g.S.Source.faults l.input;
}

abbrev pub decreases-loop-len : goal.decreases-loop-len
decreases-loop-len g l = (most_bytes + 1) - length l.self
