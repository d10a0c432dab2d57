use Rattle.std.proofs.Common.{◌≡◌}
use Rattle.std.specs.Io.KnownBytes.{Keeps}
use Rattle.tcp_ears.proofs.parts.TcpSource.wait.Given as goal

-- nothing was read yet
abbrev pub invariant-loop-slice : goal.invariant-loop-slice
invariant-loop-slice g l = record {
  faults : l.self.faults ≡ l.initial.self.faults;
  kept : Keeps (g.S.Read.remaining l.initial.self.stream) (g.S.Read.remaining l.self.stream);
}
