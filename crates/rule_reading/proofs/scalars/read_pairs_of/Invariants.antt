use Rattle.std.proofs.Common.{◌≡◌, drop, map}
use Rattle.kj_value.specs.Json.{items_of}
use Rattle.kj_value.specs.Seen.{json}
use Rattle.hub_rules.specs.Sound.{AreScalars}
use Rattle.rule_reading.specs.Shapes.{pairs_from}
use Rattle.rule_reading.proofs.Froms.{behind}
use Rattle.rule_reading.proofs.scalars.read_pairs_of.Given as goal

abbrev pub invariant-loop-i : goal.invariant-loop-i
invariant-loop-i l = record {
  read : behind l.pairs (pairs_from l.i (items_of (map json (drop l.i l.items)))) ≡ pairs_from 0 (items_of (map json l.items));
  scalars : AreScalars l.pairs;
}
