use Rattle.std.proofs.Common.{◌≡◌, ◌+◌, ◌*◌, map, take}
use Rattle.kj_value.specs.Texts.{bytes_of}
use Rattle.hub_cells.specs.LevelDepth.{level_depth, inners_depth}
use Rattle.hub_cells.specs.SeenFit.{inners_of}
use Rattle.hub_fills.specs.Fills.{fills_within}
use Rattle.hub_fills.specs.SeenFills.{within_of}
use Rattle.hub_fills.specs.inner.UnderLaws.{levels_under}
use Rattle.hub_fills.proofs.choosing.+choosing.Given as goal

abbrev pub decreases-level_fills : goal.decreases-level_fills
decreases-level_fills l = 2 * level_depth l.f.now.level

abbrev pub decreases-inner_fills : goal.decreases-inner_fills
decreases-inner_fills l = 2 * inners_depth (inners_of l.inners.now) + 1

abbrev pub invariant-inner_fills-loop-o : goal.invariant-inner_fills-loop-o
invariant-inner_fills-loop-o l =
    within_of l.deeper.items ≡ fills_within (levels_under (map bytes_of l.path) l.fits) (inners_of (take l.o-index l.inners))
