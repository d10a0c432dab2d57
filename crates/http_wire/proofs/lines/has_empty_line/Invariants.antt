use Rattle.std.proofs.Common.{ℕ, ◌<◌, ◌≤◌, take}
use Rattle.http_wire.specs.Lines.{EndsInEmptyLine}
use Rattle.http_wire.proofs.lines.has_empty_line.Given as goal

-- no empty line ended so far
abbrev pub invariant-loop-at : goal.invariant-loop-at
invariant-loop-at l = (n : ℕ) → l.from < n → n ≤ l.at → EndsInEmptyLine (take n l.bytes) → ⊥
