use Rattle.std.proofs.Common.{◌≡◌, drop}
use Rattle.hub_cells.specs.SeenFit.{inners_of}
use Rattle.hub_fills.specs.Lookups.{level_at}
use Rattle.hub_fills.proofs.lookups.level_at.Given as goal

abbrev pub invariant-loop-o : goal.invariant-loop-o
invariant-loop-o l = level_at l.name (inners_of l.inners) ≡ level_at l.name (inners_of (drop l.o-index l.inners))
