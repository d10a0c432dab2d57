use Rattle.std.proofs.Common.{◌≡◌, drop}
use Rattle.hub_cells.specs.Colon.{has_colon}
use Rattle.hub_cells.proofs.crossing.has_colon.Given as goal

abbrev pub invariant-loop-x : goal.invariant-loop-x
invariant-loop-x l = has_colon l.b ≡ has_colon (drop l.x-index l.x-items)
