use Rattle.std.proofs.Common.{◌≡◌, ◌+◌, ◌≤◌, drop}
use Rattle.record_store.specs.inner.Picked.{ends, rows_in}
use Rattle.record_store.proofs.page.offer_all.Given as goal

abbrev pub invariant-loop-place : goal.invariant-loop-place
invariant-loop-place l = record {
  counted : l.listing.behind + l.fn.from ≤ l.initial.listing.behind + l.place;
  rows : ends l.listing (rows_in (drop l.place l.olds)) ≡ ends l.initial.listing (rows_in (drop l.fn.from l.olds));
}
