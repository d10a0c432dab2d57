use Rattle.std.proofs.Common.{◌≡◌, ◌++◌, map, drop}
use Rattle.record_store.specs.Copies.{copied}
use Rattle.record_store.specs.Inside.{AreKept, item_of}
use Rattle.record_store.specs.inner.Picked.{rows_in}
use Rattle.record_store.proofs.page.copies.Given as goal

abbrev pub invariant-loop-pick : goal.invariant-loop-pick
invariant-loop-pick l = record {
  kept : AreKept l.region (rows_in (drop l.pick-index l.picks));
  items : map copied l.items.items ++ map (item_of l.region) (rows_in (drop l.pick-index l.picks)) ≡ map (item_of l.region) (rows_in l.picks);
}
