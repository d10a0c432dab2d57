use Rattle.std.proofs.Common.{◌≤◌, ◌-◌, length, take}
use Rattle.std.specs.Io.KnownBytes.{Appends}
use Rattle.tcp_links.proofs.exchange.write_whole.Given as goal

-- a front of the request was written
abbrev pub invariant-loop-sent : goal.invariant-loop-sent
invariant-loop-sent g l = record {
  within : l.sent ≤ length l.request;
  wrote : Appends (g.S.Write.contents l.fn.stream) (g.S.Write.contents l.stream) (take l.sent l.request);
}

abbrev pub decreases-loop-sent : goal.decreases-loop-sent
decreases-loop-sent g l = length l.request - l.sent
