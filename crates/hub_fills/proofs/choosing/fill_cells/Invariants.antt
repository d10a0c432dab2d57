use Rattle.std.proofs.Common.{◌≡◌, map, take}
use Rattle.std.specs.Prelude.{option_map}
use Rattle.kj_value.specs.Seen.{json}
use Rattle.kj_value.specs.Texts.{bytes_of}
use Rattle.hub_cells.specs.Seen.{cell}
use Rattle.hub_fills.specs.Fills.{fill_of}
use Rattle.hub_fills.specs.inner.UnderLaws.{levels_under}
use Rattle.hub_fills.proofs.choosing.fill_cells.Given as goal

abbrev pub invariant-loop-c : goal.invariant-loop-c
invariant-loop-c l =
    map (option_map json) l.values.items ≡ map (fill_of (levels_under (map bytes_of l.path) l.fits)) (map cell (take l.c-index l.cells))
