-- What an index is seen as: its rows by rising key, and how many it has room for.
use Rattle.std.specs.Prelude.{ℕ, List}
use Rattle.kube_meta.specs.Key.{KeyView}
use Rattle.record_store.specs.declared.row.Row.{Row}

pub record Rows : Type 0 where
  pub room : ℕ
  pub rows : List Row

abbrev pub row_key : Row → KeyView
row_key r = r.key
