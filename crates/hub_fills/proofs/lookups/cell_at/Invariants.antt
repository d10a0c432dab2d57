use Rattle.std.proofs.Common.{◌≡◌, map, drop}
use Rattle.hub_cells.specs.Seen.{cell}
use Rattle.hub_fills.specs.Lookups.{cell_at}
use Rattle.hub_fills.proofs.lookups.cell_at.Given as goal

abbrev pub invariant-loop-c : goal.invariant-loop-c
invariant-loop-c l = cell_at l.name (map cell l.cells) ≡ cell_at l.name (map cell (drop l.c-index l.cells))
