use Rattle.std.proofs.Common.{◌≡◌, drop}
use Rattle.migrate_core.proofs.Spans.{rest}
use Rattle.migrate_core.proofs.records.range_end.Given as goal

abbrev pub invariant-loop-nth : goal.invariant-loop-nth
invariant-loop-nth g l = drop l._nth (rest l.fn.cursor (g.R.Records.rows l.records)) ≡ rest l.bound (g.R.Records.rows l.records)
