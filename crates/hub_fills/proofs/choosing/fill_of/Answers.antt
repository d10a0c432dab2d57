use Rattle.std.proofs.Common.{map, ap}
use Rattle.kj_value.specs.Texts.{bytes_of}
use Rattle.hub_cells.specs.Seen.{cell, place, place_list}
use Rattle.hub_fills.specs.inner.UnderLaws.{levels_under}
use Rattle.hub_fills.proofs.Chosen.{fill_none, fill_two}
use Rattle.hub_fills.proofs.choosing.fill_of.Goals as goal

pub returns-in-Empty : goal.returns-in-Empty
returns-in-Empty c =
    fill_none (levels_under (map bytes_of c.args.path.now) c.args.fits.now) (cell c.args.c.now) (ap place_list c.in-Empty.is)

pub returns-in-Two : goal.returns-in-Two
returns-in-Two c =
    fill_two (levels_under (map bytes_of c.args.path.now) c.args.fits.now) (cell c.args.c.now) (place c.in-Two.field-0) (place c.in-Two.field-1) (ap place_list c.in-Two.is)
