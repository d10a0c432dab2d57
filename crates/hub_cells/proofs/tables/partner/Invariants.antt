use Rattle.std.proofs.Common.{◌≡◌, map, drop}
use Rattle.kj_value.specs.Seen.{json}
use Rattle.hub_cells.specs.Seen.{side}
use Rattle.hub_cells.specs.Pairs.{values_of}
use Rattle.hub_cells.specs.Cross.{partner}
use Rattle.hub_cells.proofs.tables.partner.Given as goal

abbrev pub invariant-loop-p : goal.invariant-loop-p
invariant-loop-p l =
    partner (side l.from) (json l.value) (map values_of l.pairs) ≡ partner (side l.from) (json l.value) (map values_of (drop l.p-index l.pairs))
