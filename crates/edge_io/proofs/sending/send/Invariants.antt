use Rattle.std.proofs.Common.{◌≡◌, ◌-◌, ◌≤◌, length, take}
use Rattle.std.specs.Io.KnownBytes.{append_known}
use Rattle.edge_io.proofs.sending.send.Given as goal

-- a front of the piece was added
abbrev pub invariant-loop-sent : goal.invariant-loop-sent
invariant-loop-sent g l = record {
  within : l.sent ≤ length l.piece;
  wrote : g.K.Sink.written l.out ≡ append_known (g.K.Sink.written l.fn.out) (take l.sent l.piece);
  later : g.K.Sink.faults l.fn.out ≤ g.K.Sink.faults l.out;
  number : g.K.Sink.number l.out ≡ g.K.Sink.number l.fn.out;
}

abbrev pub decreases-loop-sent : goal.decreases-loop-sent
decreases-loop-sent g l = length l.piece - l.sent
