use Rattle.std.proofs.Common.{◌≡◌}
use Rattle.migrate_core.specs.Rows.{elsewhere}
use Rattle.migrate_core.proofs.Spans.{left}
use Rattle.migrate_core.proofs.records.first_elsewhere.Given as goal

abbrev pub invariant-loop-row : goal.invariant-loop-row
invariant-loop-row g l =
    elsewhere (record { after = l.after; upto = l.range.upto }) l.target (g.R.Records.rows l.records) ≡ elsewhere l.range l.target (g.R.Records.rows l.records)

abbrev pub decreases-loop-row : goal.decreases-loop-row
decreases-loop-row g l = left l.after (g.R.Records.rows l.records)
