use Rattle.std.proofs.Common.{map, option_map, ap, ◌∙◌}
use Rattle.kj_value.specs.Texts.{bytes_of}
use Rattle.hub_fills.proofs.Growing.{late_step}
use Rattle.hub_fills.proofs.lateness.+late.Goals as goal

pub late_inner-loop-o-preserved : goal.late_inner-loop-o-preserved
late_inner-loop-o-preserved t c =
    let l = c.loop-o in
    late_step (map bytes_of c.args.path.now) (map bytes_of c.as_slice.result.now) c.args.fits.now (option_map bytes_of l.first) (option_map bytes_of c.in_ok-first.first) _ c.args.inners.now l.o-index c.o-item.result c.loop-o-test.true c.o-item.is (ap (map bytes_of) c.as_slice.ensures.value ∙ c.in_ok-below.ensures) c.in_ok-first.ensures l.invariant
