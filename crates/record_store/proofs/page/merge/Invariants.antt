use Rattle.std.proofs.Common.{◌≡◌, ◌+◌, ◌≤◌, List, drop}
use Rattle.record_store.specs.Rows.{row_key}
use Rattle.record_store.specs.declared.row.Row.{Row}
use Rattle.record_store.specs.inner.Picked.{ends, merge_into, rows_in}
use Rattle.record_store.proofs.page.merge.Given as goal

abbrev pub invariant-loop-place : goal.invariant-loop-place
invariant-loop-place l = record {
  counted : l.listing.behind + l.fn.from ≤ l.initial.listing.behind + l.place;
  rows : (rest : List Row → List Row) → ends l.listing (merge_into row_key l.row rest (rows_in (drop l.place l.olds))) ≡ ends l.initial.listing (merge_into row_key l.row rest (rows_in (drop l.fn.from l.olds)));
}
