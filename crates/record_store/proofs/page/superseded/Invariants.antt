use Rattle.std.proofs.Common.{◌≡◌, ◌≤◌, length, map, drop}
use Rattle.record_store.specs.ByKey.{KeysRise}
use Rattle.record_store.specs.inner.Picked.{pick_key, rows_in, superseded}
use Rattle.record_store.proofs.page.superseded.Given as goal

abbrev pub invariant-loop-place : goal.invariant-loop-place
invariant-loop-place l = record {
  within : l.place ≤ length l.window.items;
  rows : rows_in l.picks.items ≡ superseded l.rv (drop l.place l.window.items);
  order : KeysRise (map pick_key l.picks.items);
}

abbrev pub decreases-loop-place : goal.decreases-loop-place
decreases-loop-place l = l.place
