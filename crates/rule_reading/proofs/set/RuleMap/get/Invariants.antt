use Rattle.std.proofs.Common.{◌≡◌, drop, map}
use Rattle.kj_value.specs.Fields.{field}
use Rattle.rule_reading.specs.SeenSet.{spoke_pair}
use Rattle.rule_reading.proofs.set.RuleMap.get.Given as goal

abbrev pub invariant-loop-s : goal.invariant-loop-s
invariant-loop-s l =
    field l.name (map spoke_pair l.spokes) ≡ field l.name (map spoke_pair (drop l.s-index l.spokes))
