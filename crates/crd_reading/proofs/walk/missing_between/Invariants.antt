use Rattle.std.proofs.Common.{◌≡◌, drop}
use Rattle.crd_reading.specs.Walk.{missing_between}
use Rattle.crd_reading.proofs.walk.missing_between.Given as goal

abbrev pub invariant-loop-row : goal.invariant-loop-row
invariant-loop-row l =
    missing_between l.after l.before (drop l.row-index l.rows) ≡ missing_between l.after l.before l.rows
