use Rattle.std.proofs.Common.{arith}
use Rattle.record_store.specs.inner.Picked.{ends}
use Rattle.record_store.proofs.Steps.{offered_at, offered_all}
use Rattle.record_store.proofs.page.offer_all.Goals as goal

pub loop-place-preserved : goal.loop-place-preserved
loop-place-preserved c = record {
  counted = omega (arith, c.in_ok-offer.ensures.counted, c.loop-place.invariant.counted);
  rows = offered_at (ends c.loop-place.listing) (ends c.offer.new.listing) _ c.args.olds.now c.loop-place.place c.index-olds-place.result c.loop-place-test.true c.index-olds-place.is c.in_ok-offer.ensures.offered c.loop-place.invariant.rows;
}

pub returns : goal.returns
returns c = offered_all (ends c.loop-place.listing) _ c.args.olds.now c.loop-place.place (omega arith) c.loop-place.invariant.rows
