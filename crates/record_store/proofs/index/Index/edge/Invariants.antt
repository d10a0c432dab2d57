use Rattle.std.proofs.Common.{◌≡◌, ◌-◌, ◌<◌, ◌≤◌, ℕ, length, get_or, true, false}
use Rattle.record_store.specs.Rows.{row_key}
use Rattle.record_store.specs.inner.Stretches.{comes_before}
use Rattle.record_store.specs.declared.row.Row.{Row}
use Rattle.record_store.proofs.index.Index.edge.Given as goal

abbrev pub invariant-loop-low : goal.invariant-loop-low
invariant-loop-low l = record {
  order : l.low ≤ l.high;
  within : l.high ≤ length l.self-inside.rows.rows;
  below : (j : ℕ) (d : Row) → j < l.low → comes_before l.with_them l.ns (row_key (get_or l.self-inside.rows.rows j d)) ≡ true;
  above : (j : ℕ) (d : Row) → l.high ≤ j → j < length l.self-inside.rows.rows → comes_before l.with_them l.ns (row_key (get_or l.self-inside.rows.rows j d)) ≡ false;
}

abbrev pub decreases-loop-low : goal.decreases-loop-low
decreases-loop-low l = l.high - l.low
