use Rattle.std.proofs.Common.{◌≤◌, length, drop, map}
use Rattle.kj_value.specs.Seen.{json}
use Rattle.struct_schema.specs.Places.{ArePlaces}
use Rattle.struct_schema.proofs.places.all_places.Given as goal

abbrev pub invariant-loop-i : goal.invariant-loop-i
invariant-loop-i l = record {
  within : l.i ≤ length l.values;
  places : ArePlaces l.places l.i (map json (drop l.i l.values));
}

abbrev pub decreases-loop-i : goal.decreases-loop-i
decreases-loop-i l = l.i
