use Rattle.std.proofs.Common.{map}
use Rattle.kj_value.specs.Texts.{bytes_of}
use Rattle.hub_cells.specs.Side.{spoke}
use Rattle.hub_cells.specs.Seen.{cell}
use Rattle.hub_fills.proofs.Chosen.{found_fits, found_allows, level_allows}
use Rattle.hub_fills.proofs.choosing.default_from.Goals as goal

pub spoke_default-requires-clause-fits : goal.spoke_default-requires-clause-fits
spoke_default-requires-clause-fits c =
    found_fits c.in-Some.l.now.level (map cell c.cells.result.now) c.as_str.result.now (cell c.in-Some-cell_at.c.now) c.cells.ensures.cells c.cells.ensures.fitted.fits c.in-Some-cell_at.ensures

pub spoke_default-requires-clause-defaults : goal.spoke_default-requires-clause-defaults
spoke_default-requires-clause-defaults c =
    found_allows c.in-Some.l.now.level (map cell c.cells.result.now) c.as_str.result.now (cell c.in-Some-cell_at.c.now) c.cells.ensures.cells (level_allows (map bytes_of c.args.path.now) c.args.f.now.level c.in-Some.l.now.level c.requires c.in-Some.ensures) c.in-Some-cell_at.ensures spoke
