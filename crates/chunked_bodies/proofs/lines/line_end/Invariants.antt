use Rattle.std.proofs.Common.{◌≢◌, ◌≤◌, ◌<◌, ℕ, get_or}
use Rattle.chunked_bodies.proofs.lines.line_end.Given as goal

-- no line feed was passed
abbrev pub invariant-loop-i : goal.invariant-loop-i
invariant-loop-i l = record {
  later : l.fn.from ≤ l.i;
  none : (k : ℕ) → l.fn.from ≤ k → k < l.i → get_or l.bytes k 0 ≢ 10;
}
