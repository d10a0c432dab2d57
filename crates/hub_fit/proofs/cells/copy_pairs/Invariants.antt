use Rattle.std.proofs.Common.{◌≡◌, map, take}
use Rattle.hub_cells.specs.Pairs.{values_of}
use Rattle.hub_fit.proofs.cells.copy_pairs.Given as goal

abbrev pub invariant-loop-p : goal.invariant-loop-p
invariant-loop-p l = l.copies ≡ map values_of (take l.p-index l.p-items)
