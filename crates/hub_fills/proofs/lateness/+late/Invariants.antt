use Rattle.std.proofs.Common.{◌≡◌, ◌+◌, ◌*◌, map, drop, fold, option_map}
use Rattle.kj_value.specs.Texts.{bytes_of}
use Rattle.struct_schema.specs.Fault.{lesser}
use Rattle.hub_cells.specs.LevelDepth.{level_depth, inners_depth}
use Rattle.hub_cells.specs.SeenFit.{inners_of}
use Rattle.hub_fills.specs.LateNames.{joined, late_within}
use Rattle.hub_fills.specs.inner.UnderLaws.{levels_under}
use Rattle.hub_fills.proofs.lateness.+late.Given as goal

abbrev pub decreases-late_level : goal.decreases-late_level
decreases-late_level l = 2 * level_depth l.f.now.level

abbrev pub decreases-late_inner : goal.decreases-late_inner
decreases-late_inner l = 2 * inners_depth (inners_of l.inners.now) + 1

abbrev pub invariant-late_inner-loop-o : goal.invariant-late_inner-loop-o
invariant-late_inner-loop-o l =
    fold lesser (option_map bytes_of l.first) (map joined (late_within (levels_under (map bytes_of l.path) l.fits) (map bytes_of l.path) (inners_of (drop l.o-index l.inners)))) ≡ fold lesser (option_map bytes_of l.fn.best) (map joined (late_within (levels_under (map bytes_of l.path) l.fits) (map bytes_of l.path) (inners_of l.inners)))
