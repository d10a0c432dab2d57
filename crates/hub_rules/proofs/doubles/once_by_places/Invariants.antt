use Rattle.std.proofs.Common.{◌≡◌, ◌≤◌, length, drop, map, true}
use Rattle.struct_schema.specs.Places.{ArePlaces}
use Rattle.hub_cells.specs.Pairs.{values_of}
use Rattle.hub_cells.specs.Seen.{side}
use Rattle.hub_cells.specs.Sought.{column}
use Rattle.hub_rules.specs.Refusal.{once}
use Rattle.hub_rules.proofs.doubles.once_by_places.Given as goal

abbrev pub invariant-loop-i : goal.invariant-loop-i
invariant-loop-i l = record {
  within : l.i ≤ length l.pairs;
  places : ArePlaces l.places l.i (column (side l.on) (map values_of (drop l.i l.pairs)));
  once : once (side l.on) (map values_of (drop l.i l.pairs)) ≡ true;
}

abbrev pub decreases-loop-i : goal.decreases-loop-i
decreases-loop-i l = l.i
