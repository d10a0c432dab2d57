use Rattle.std.proofs.Common.{◌≡◌, map, drop}
use Rattle.hub_cells.specs.Seen.{side}
use Rattle.hub_cells.specs.Pairs.{values_of}
use Rattle.hub_rules.specs.Refusal.{once}
use Rattle.hub_rules.proofs.doubles.once_by_pairs.Given as goal

abbrev pub invariant-loop-i : goal.invariant-loop-i
invariant-loop-i l =
    once (side l.on) (map values_of l.pairs) ≡ once (side l.on) (map values_of (drop l.i l.pairs))
