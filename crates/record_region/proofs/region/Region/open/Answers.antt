use Rattle.std.proofs.Common.{arith}
use Rattle.record_region.proofs.Opening.{opened, opened_places}
use Rattle.record_region.proofs.region.Region.open.Goals as goal

pub invariant_of-result : goal.invariant_of-result
invariant_of-result c = opened c.in_ok-store.store.items c.in_ok-links.links.items c.in_ok-marks.marks.items c.args.chunks (omega (arith, c.in_ok-store.ensures.len)) c.in_ok-links.ensures.count c.in_ok-links.ensures.order (omega arith) (c.in_ok-marks.ensures.items_if_clones_equal (λ y e. e))

pub returns : goal.returns
returns c = opened_places c.in_ok-store.store.items c.in_ok-links.links.items c.in_ok-marks.marks.items c.args.chunks (c.in_ok-marks.ensures.items_if_clones_equal (λ y e. e))
