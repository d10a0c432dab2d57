use Rattle.std.proofs.Common.{◌≡◌, ◌≤◌, ◌-◌}
use Rattle.place.specs.Place.{place_of}
use Rattle.record_dump.specs.Restores.{none_yet, lines_in, most_lines}
use Rattle.record_dump.specs.inner.Posted.{counts_of, AreFew}
use Rattle.record_dump.proofs.Stepping.{Goes}
use Rattle.record_dump.proofs.restoring.restore.Given as goal

-- whatever follows from here follows from the start
abbrev pub invariant-loop-end : goal.invariant-loop-end
invariant-loop-end g l = record {
  made : Goes (g.R.Of.Serving.server (g.R.Far.base l.fn.far)) (record { exchanges = g.R.Link.exchanges l.fn.far; log = g.R.Far.log l.fn.far }) (record { exchanges = g.R.Link.exchanges l.far; log = g.R.Far.log l.far })
      (place_of l.place).names none_yet (counts_of l.counts) (g.S.Source.left l.fn.input) (g.S.Source.left l.input) l.lines;
  few : AreFew l.counts;
  base : g.R.Far.base l.far ≡ g.R.Far.base l.fn.far;
  later : g.R.Link.faults l.fn.far ≤ g.R.Link.faults l.far;
  source_later : g.S.Source.faults l.fn.input ≤ g.S.Source.faults l.input;
}

abbrev pub decreases-loop-end : goal.decreases-loop-end
decreases-loop-end g l = most_lines - lines_in (counts_of l.counts)
