use Rattle.std.proofs.Common.{◌≡◌, ◌++◌, drop, map}
use Rattle.std.specs.Map.{keys_of}
use Rattle.kj_value.specs.Json.{members_of}
use Rattle.kj_value.specs.Pair.{pair_of}
use Rattle.rule_reading.specs.SeenSet.{spoke_pair}
use Rattle.rule_reading.specs.SetRead.{spokes_from}
use Rattle.rule_reading.proofs.Froms.{behind}
use Rattle.rule_reading.proofs.set.read_spokes_of.Given as goal

abbrev pub invariant-loop-i : goal.invariant-loop-i
invariant-loop-i l = record {
  read : behind (map spoke_pair l.spokes.items) (spokes_from l.hub (members_of (map pair_of (drop l.i l.fields)))) ≡ spokes_from l.hub (members_of (map pair_of l.fields));
  names : keys_of (map spoke_pair l.spokes.items) ++ keys_of (map pair_of (drop l.i l.fields)) ≡ keys_of (map pair_of l.fields);
}
