use Rattle.std.proofs.Common.{◌≡◌, drop}
use Rattle.crd_reading.specs.Table.{place_at}
use Rattle.crd_reading.proofs.places.place_at.Given as goal

abbrev pub invariant-loop-row : goal.invariant-loop-row
invariant-loop-row l =
    place_at l.name (drop l.row-index l.rows) l.other ≡ place_at l.name l.rows l.other
