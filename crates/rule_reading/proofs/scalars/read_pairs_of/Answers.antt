use Rattle.std.proofs.Common.{ap, sym, ◌∙◌, arith}
use Rattle.hub_cells.specs.Pairs.{values_of}
use Rattle.rule_reading.specs.Told.{answer}
use Rattle.rule_reading.proofs.Froms.{pairs_step, scalars_push}
use Rattle.rule_reading.proofs.scalars.read_pairs_of.Goals as goal

pub loop-i-preserved : goal.loop-i-preserved
loop-i-preserved c =
    let pushed = c.in_ok-push-in-Ok.ensures.ok in
    let scalars = rw c.in-Ok.is at c.in_ok-spot.ensures.scalars in
    rw pushed (record {
      read = pairs_step _ c.loop-i.i c.index-items-i.result c.loop-i.pairs (values_of c.in-Ok.pair) _ (omega arith) c.index-items-i.is c.loop-i.invariant.read (sym (ap (answer values_of) c.in-Ok.is) ∙ c.in_ok-spot.ensures.read);
      scalars = scalars_push c.loop-i.pairs (values_of c.in-Ok.pair) c.loop-i.invariant.scalars scalars.0 scalars.1;
    })
