use Rattle.std.proofs.Common.{◌≡◌, ◌≤◌, ◌-◌, List, length, map, drop}
use Rattle.kj_value.specs.Seen.{json}
use Rattle.edge_io.specs.Exchanges.{Exchange}
use Rattle.place.specs.Place.{place_of}
use Rattle.wire_client.specs.Far.{Made}
use Rattle.far_migrate.specs.Counts.{counts_of}
use Rattle.far_migrate.specs.inner.Runs.{Owes}
use Rattle.far_migrate.proofs.Going.{Goes}
use Rattle.far_migrate.proofs.paging.put_all.Given as goal

-- the first objects are put back
abbrev pub invariant-loop-i : goal.invariant-loop-i
invariant-loop-i g l = record {
  made : (es : List Exchange) × Made (g.R.Of.Serving.server (g.R.Far.base l.fn.far)) (record { exchanges = g.R.Link.exchanges l.fn.far; log = g.R.Far.log l.fn.far }) (record { exchanges = g.R.Link.exchanges l.far; log = g.R.Far.log l.far }) es
      × Goes (place_of l.place).names (map json l.objects) (counts_of l.fn.counts) (drop l.i (map json l.objects)) (counts_of l.counts) es;
  owes : Owes (length l.objects - l.i) l.counts;
  same : l.counts.listed ≡ l.fn.counts.listed;
  base : g.R.Far.base l.far ≡ g.R.Far.base l.fn.far;
  later : g.R.Link.faults l.fn.far ≤ g.R.Link.faults l.far;
}
