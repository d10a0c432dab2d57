use Rattle.std.proofs.Common.{◌≡◌, map, drop}
use Rattle.std.specs.Prelude.{option_map}
use Rattle.kj_value.specs.Seen.{json}
use Rattle.hub_fills.specs.Depth.{has_value}
use Rattle.hub_fills.proofs.fills.has_value.Given as goal

abbrev pub invariant-loop-v : goal.invariant-loop-v
invariant-loop-v l =
    has_value (map (option_map json) (drop l.v-index l.values)) ≡ has_value (map (option_map json) l.values)
