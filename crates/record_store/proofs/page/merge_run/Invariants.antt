use Rattle.std.proofs.Common.{◌≡◌, ◌+◌, ◌≤◌, ◌++◌, List, length, drop}
use Rattle.record_store.specs.Rows.{row_key}
use Rattle.record_store.specs.declared.row.Row.{Row}
use Rattle.record_store.specs.inner.Picked.{ends, merged, rows_in, standing}
use Rattle.record_store.proofs.page.merge_run.Given as goal

abbrev pub invariant-loop-row : goal.invariant-loop-row
invariant-loop-row l = record {
  within : l.next ≤ length l.olds;
  counted : l.listing.behind + l.fn.from ≤ l.initial.listing.behind + l.next + l.row-index;
  rows : (rest : List Row) → ends l.listing (merged row_key (standing l.rv (drop l.row-index l.rows ++ rest)) (rows_in (drop l.next l.olds))) ≡ ends l.initial.listing (merged row_key (standing l.rv (l.rows ++ rest)) (rows_in (drop l.fn.from l.olds)));
}
