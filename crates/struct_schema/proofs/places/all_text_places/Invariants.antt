use Rattle.std.proofs.Common.{◌≤◌, length, drop, map}
use Rattle.kj_value.specs.Json.{text}
use Rattle.kj_value.specs.Texts.{bytes_of}
use Rattle.struct_schema.specs.Places.{ArePlaces}
use Rattle.struct_schema.proofs.places.all_text_places.Given as goal

abbrev pub invariant-loop-i : goal.invariant-loop-i
invariant-loop-i l = record {
  within : l.i ≤ length l.names;
  places : ArePlaces l.places l.i (map text (map bytes_of (drop l.i l.names)));
}

abbrev pub decreases-loop-i : goal.decreases-loop-i
decreases-loop-i l = l.i
