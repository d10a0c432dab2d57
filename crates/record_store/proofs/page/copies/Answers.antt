use Rattle.std.proofs.Common.{map, ap, ◌∙◌}
use Rattle.std.proofs.lemmas.List.{map-append}
use Rattle.record_store.specs.Copies.{copied}
use Rattle.record_store.specs.Inside.{IsKept, item_of}
use Rattle.record_store.proofs.Steps.{each_next, copied_next}
use Rattle.record_store.proofs.page.copies.Goals as goal

pub copy-requires : goal.copy-requires
copy-requires c =
    (each_next (IsKept c.args.region.now) c.args.picks.now c.loop-pick.pick-index c.pick-item.result c.loop-pick-test.true c.pick-item.is c.loop-pick.invariant.kept).0

pub loop-pick-preserved : goal.loop-pick-preserved
loop-pick-preserved c = record {
  kept = (each_next (IsKept c.args.region.now) c.args.picks.now c.loop-pick.pick-index c.pick-item.result c.loop-pick-test.true c.pick-item.is c.loop-pick.invariant.kept).1;
  items = copied_next (item_of c.args.region.now) c.args.picks.now c.loop-pick.pick-index c.pick-item.result _ _ _ _ c.loop-pick-test.true c.pick-item.is c.in_ok-copy.ensures (ap (map copied) c.in_ok-push.ensures.items ∙ map-append copied _ _) c.loop-pick.invariant.items;
}
