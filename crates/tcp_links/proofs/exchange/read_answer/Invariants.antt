use Rattle.std.proofs.Common.{◌≤◌, ◌-◌, length}
use Rattle.std.specs.Io.KnownBytes.{Consumes}
use Rattle.tcp_links.specs.declared.limits.TheConstants.{MOST_ANSWER_BYTES}
use Rattle.tcp_links.proofs.exchange.read_answer.Given as goal

-- what was read isn't too long, and is what the stream gave
abbrev pub invariant-loop-piece : goal.invariant-loop-piece
invariant-loop-piece g l = record {
  short : length l.answer.items ≤ MOST_ANSWER_BYTES;
  read : Consumes (g.S.Read.remaining l.fn.stream) (g.S.Read.remaining l.stream) l.answer.items;
}

abbrev pub decreases-loop-piece : goal.decreases-loop-piece
decreases-loop-piece g l = MOST_ANSWER_BYTES - length l.answer.items
