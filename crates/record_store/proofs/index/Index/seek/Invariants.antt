use Rattle.std.proofs.Common.{◌≡◌, ◌-◌, ◌<◌, ◌≤◌, ℕ, length, get_or, Less, Greater}
use Rattle.kube_meta.specs.Key.{key_cmp}
use Rattle.record_store.specs.Rows.{row_key}
use Rattle.record_store.specs.declared.row.Row.{Row}
use Rattle.record_store.proofs.index.Index.seek.Given as goal

abbrev pub invariant-loop-low : goal.invariant-loop-low
invariant-loop-low l = record {
  order : l.low ≤ l.high;
  within : l.high ≤ length l.self-inside.rows.rows;
  below : (j : ℕ) (d : Row) → j < l.low → key_cmp (row_key (get_or l.self-inside.rows.rows j d)) (record { ns = l.ns; name = l.name }) ≡ Less;
  above : (j : ℕ) (d : Row) → l.high ≤ j → j < length l.self-inside.rows.rows → key_cmp (row_key (get_or l.self-inside.rows.rows j d)) (record { ns = l.ns; name = l.name }) ≡ Greater;
}

abbrev pub decreases-loop-low : goal.decreases-loop-low
decreases-loop-low l = l.high - l.low
