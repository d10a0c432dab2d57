use Rattle.std.proofs.Common.{◌≡◌, ◌≤◌, List}
use Rattle.edge_io.specs.Exchanges.{Exchange}
use Rattle.place.specs.Place.{place_of}
use Rattle.wire_client.specs.Far.{Made}
use Rattle.far_migrate.specs.Pages.{at_first, first_limit}
use Rattle.far_migrate.specs.inner.Runs.{run_of, IsRunning, left_in}
use Rattle.far_migrate.proofs.Going.{RunsOn}
use Rattle.far_migrate.proofs.migrating.migrate.Given as goal

-- whatever follows from here follows from the start
abbrev pub invariant-loop-run : goal.invariant-loop-run
invariant-loop-run g l = record {
  made : (es : List Exchange) × Made (g.R.Of.Serving.server (g.R.Far.base l.fn.far)) (record { exchanges = g.R.Link.exchanges l.fn.far; log = g.R.Far.log l.fn.far }) (record { exchanges = g.R.Link.exchanges l.far; log = g.R.Far.log l.far }) es
      × RunsOn (place_of l.place).names (at_first first_limit 0) (run_of l.run) es;
  running : IsRunning l.run;
  base : g.R.Far.base l.far ≡ g.R.Far.base l.fn.far;
  later : g.R.Link.faults l.fn.far ≤ g.R.Link.faults l.far;
}

abbrev pub decreases-loop-run : goal.decreases-loop-run
decreases-loop-run g l = left_in l.run
