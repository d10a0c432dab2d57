use Rattle.std.proofs.Common.{map, ap, ◌∙◌, List}
use Rattle.std.specs.Prelude.{option_map}
use Rattle.std.proofs.lemmas.List.{take_all}
use Rattle.kj_value.specs.Seen.{json}
use Rattle.kj_value.specs.Texts.{bytes_of}
use Rattle.hub_cells.specs.Seen.{cell}
use Rattle.hub_cells.specs.declared.cell.Cell.{Cell}
use Rattle.hub_fills.specs.Fills.{fill_of}
use Rattle.hub_fills.specs.inner.UnderLaws.{levels_under}
use Rattle.hub_fills.proofs.Growing.{mapped_twice}
use Rattle.hub_fills.proofs.choosing.fill_cells.Goals as goal

pub loop-c-preserved : goal.loop-c-preserved
loop-c-preserved c =
    mapped_twice (option_map json) (fill_of (levels_under (map bytes_of c.args.path.now) c.args.fits.now)) cell c.loop-c.values.items c.push.new.self.items c.in_ok-value.value c.args.cells.now c.loop-c.c-index c.c-item.result
    c.loop-c-test.true c.c-item.is c.in_ok-push.ensures.items c.in_ok-value.ensures c.loop-c.invariant

pub returns : goal.returns
returns c =
    c.loop-c.invariant
    ∙ ap (λ (cs : List Cell). map (fill_of (levels_under (map bytes_of c.args.path.now) c.args.fits.now)) (map cell cs)) (take_all c.loop-c.c-index c.args.cells.now c.loop-c-test.false)
