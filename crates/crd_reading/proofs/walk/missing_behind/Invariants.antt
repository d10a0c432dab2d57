use Rattle.std.proofs.Common.{◌≡◌, drop}
use Rattle.crd_reading.specs.Walk.{missing_behind}
use Rattle.crd_reading.proofs.walk.missing_behind.Given as goal

abbrev pub invariant-loop-row : goal.invariant-loop-row
invariant-loop-row l = missing_behind l.after (drop l.row-index l.rows) ≡ missing_behind l.after l.rows
