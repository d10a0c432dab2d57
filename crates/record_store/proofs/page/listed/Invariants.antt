use Rattle.std.proofs.Common.{◌≡◌, ◌+◌, ◌-◌, ◌≤◌, length, take, drop}
use Rattle.std.specs.Prelude.{option_copied}
use Rattle.kube_meta.specs.Page.{listed}
use Rattle.record_store.specs.Rows.{row_key}
use Rattle.record_store.specs.inner.Picked.{ends, merged, no_rows, rows_in, standing, with_more}
use Rattle.record_store.proofs.page.listed.Given as goal

abbrev pub invariant-loop-place : goal.invariant-loop-place
invariant-loop-place l = record {
  within : l.from ≤ length l.olds.items;
  inside : l.place ≤ l.to;
  counted : l.listing.behind ≤ l.place + l.from;
  rows : ends l.listing (merged row_key (standing l.rv (take (l.to - l.place) (drop l.place l.index.rows))) (rows_in (drop l.from l.olds.items))) ≡ with_more l.limit no_rows (listed row_key (option_copied l.ns) (option_copied l.after) (merged row_key (standing l.rv l.index.rows) (rows_in l.fn.olds)));
}

abbrev pub decreases-loop-place : goal.decreases-loop-place
decreases-loop-place l = l.to - l.place
