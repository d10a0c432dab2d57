use Rattle.std.proofs.Common.{◌≡◌, ◌≤◌, ◌⊎◌}
use Rattle.place.specs.Place.{place_of}
use Rattle.record_dump.specs.Dumps.{at_first}
use Rattle.record_dump.specs.inner.Seen.{walk_of, IsWalking, left_in}
use Rattle.record_dump.proofs.Leading.{Goes}
use Rattle.record_dump.proofs.dumping.dump.Given as goal

-- whatever follows from here follows from the start
abbrev pub invariant-loop-end : goal.invariant-loop-end
invariant-loop-end g l = record {
  made : Goes (g.R.Of.Serving.server (g.R.Far.base l.fn.far)) (record { exchanges = g.R.Link.exchanges l.fn.far; log = g.R.Far.log l.fn.far }) (record { exchanges = g.R.Link.exchanges l.far; log = g.R.Far.log l.far })
      (place_of l.place).names at_first (walk_of l.walk) (g.K.Sink.written l.fn.out) (g.K.Sink.written l.out);
  walking : IsWalking l.walk;
  base : g.R.Far.base l.far ≡ g.R.Far.base l.fn.far;
  later : g.R.Link.faults l.fn.far ≤ g.R.Link.faults l.far;
  handed_on : (l.out ≡ l.fn.out) ⊎ (g.K.Sink.flushed l.out ≡ g.K.Sink.written l.out);
  sink_later : g.K.Sink.faults l.fn.out ≤ g.K.Sink.faults l.out;
}

abbrev pub decreases-loop-end : goal.decreases-loop-end
decreases-loop-end g l = left_in (walk_of l.walk)
