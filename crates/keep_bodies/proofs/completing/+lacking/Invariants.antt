use Rattle.std.proofs.Common.{◌≡◌, ◌+◌, ◌*◌, drop}
use Rattle.hub_cells.specs.LevelDepth.{level_depth, inners_depth}
use Rattle.hub_cells.specs.SeenFit.{inners_of}
use Rattle.hub_fills.specs.SeenFills.{within_of}
use Rattle.keep_bodies.specs.inner.Filling.{inners_lack}
use Rattle.keep_bodies.proofs.completing.+lacking.Given as goal

abbrev pub decreases-level_lacks : goal.decreases-level_lacks
decreases-level_lacks l = 3 * level_depth l.f.now.level

abbrev pub decreases-inners_lack : goal.decreases-inners_lack
decreases-inners_lack l = 3 * inners_depth (inners_of l.inners.now) + 2

abbrev pub decreases-inner_lacks : goal.decreases-inner_lacks
decreases-inner_lacks l = 3 * level_depth l.o.now.fitted.level + 1

abbrev pub invariant-inners_lack-loop-i : goal.invariant-inners_lack-loop-i
invariant-inners_lack-loop-i l =
    inners_lack (inners_of (drop l.i l.inners)) (within_of (drop l.i l.fills)) l.x ≡ inners_lack (inners_of l.inners) (within_of l.fills) l.x
