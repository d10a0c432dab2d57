use Rattle.std.proofs.Common.{sym, arith, length}
use Rattle.record_store.specs.inner.Picked.{ends}
use Rattle.record_store.proofs.Steps.{merged_before, merged_instead, merged_behind, merged_last}
use Rattle.record_store.proofs.page.merge.Goals as goal

pub loop-place-preserved : goal.loop-place-preserved
loop-place-preserved c = record {
  counted = omega (arith, c.in_ok-offer-in-Less.ensures.counted, c.loop-place.invariant.counted);
  rows = λ rest.
      merged_before (ends c.loop-place.listing) (ends c.offer.new.listing) _ c.args.olds.now c.loop-place.place c.index-olds-place.result c.loop-place-test.true c.index-olds-place.is c.args.row.now rest (c.loop-place.invariant.rows rest) (sym c.in-Less.ensures) c.in_ok-offer-in-Less.ensures.offered;
}

pub returns-in-Equal-clause-merged : goal.returns-in-Equal-clause-merged
returns-in-Equal-clause-merged c = λ rest.
    merged_instead (ends c.loop-place.listing) (ends c.offer-in-Equal.new.listing) _ c.args.olds.now c.loop-place.place c.index-olds-place.result c.loop-place-test.true c.index-olds-place.is c.args.row.now rest (c.loop-place.invariant.rows rest) (sym c.in-Equal.ensures) c.in_ok-offer-in-Equal.ensures.offered

pub returns-in-Greater-clause-merged : goal.returns-in-Greater-clause-merged
returns-in-Greater-clause-merged c = λ rest.
    merged_behind (ends c.loop-place.listing) (ends c.offer-in-Greater.new.listing) _ c.args.olds.now c.loop-place.place c.index-olds-place.result c.loop-place-test.true c.index-olds-place.is c.args.row.now rest (c.loop-place.invariant.rows rest) (sym c.in-Greater.ensures) c.in_ok-offer-in-Greater.ensures.offered

pub returns-clause-merged : goal.returns-clause-merged
returns-clause-merged c = λ rest.
    merged_last (ends c.loop-place.listing) (ends c.offer-2.new.listing) _ c.args.olds.now c.loop-place.place (length c.args.olds.now) c.args.row.now rest (omega arith) (omega arith) c.in_ok-offer.ensures.offered (c.loop-place.invariant.rows rest)
