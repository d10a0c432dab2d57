use Rattle.std.proofs.Common.{◌≡◌, map, drop, fold, option_map}
use Rattle.kj_value.specs.Texts.{bytes_of}
use Rattle.struct_schema.specs.Fault.{lesser}
use Rattle.hub_cells.specs.Seen.{cell}
use Rattle.hub_fills.specs.LateNames.{joined, late_cells}
use Rattle.hub_fills.specs.inner.UnderLaws.{levels_under}
use Rattle.hub_fills.proofs.lateness.late_cells.Given as goal

abbrev pub invariant-loop-c : goal.invariant-loop-c
invariant-loop-c l =
    fold lesser (option_map bytes_of l.first) (map joined (late_cells (levels_under (map bytes_of l.path) l.fits) (map bytes_of l.path) (map cell (drop l.c-index l.cells)))) ≡ fold lesser (option_map bytes_of l.fn.best) (map joined (late_cells (levels_under (map bytes_of l.path) l.fits) (map bytes_of l.path) (map cell l.cells)))
