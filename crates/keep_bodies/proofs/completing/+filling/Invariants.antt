use Rattle.std.proofs.Common.{◌≡◌, ◌+◌, ◌*◌, drop}
use Rattle.hub_cells.specs.LevelDepth.{level_depth, inners_depth}
use Rattle.hub_cells.specs.SeenFit.{inners_of}
use Rattle.hub_fills.specs.SeenFills.{within_of}
use Rattle.keep_bodies.specs.inner.Filling.{fill_inners}
use Rattle.keep_bodies.proofs.completing.+filling.Given as goal

abbrev pub decreases-fill_level : goal.decreases-fill_level
decreases-fill_level l = 4 * level_depth l.f.now.level

abbrev pub decreases-fill_inners : goal.decreases-fill_inners
decreases-fill_inners l = 4 * inners_depth (inners_of l.inners.now) + 3

abbrev pub decreases-fill_inner : goal.decreases-fill_inner
decreases-fill_inner l = 4 * level_depth l.o.now.fitted.level + 2

abbrev pub decreases-put_filled : goal.decreases-put_filled
decreases-put_filled l = 4 * level_depth l.o.now.fitted.level + 1

abbrev pub invariant-fill_inners-loop-i : goal.invariant-fill_inners-loop-i
invariant-fill_inners-loop-i l =
    fill_inners (inners_of (drop l.i l.inners)) (within_of (drop l.i l.fills)) l.x ≡ fill_inners (inners_of l.inners) (within_of l.fills) l.initial.x
