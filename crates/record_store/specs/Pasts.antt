-- What a window is seen as: its records in the order in which they were superseded, and its floor.
use Rattle.std.specs.Prelude.{ℕ, List, map}
use Rattle.kube_meta.specs.declared.limits.Limits.{Limits}
use Rattle.record_store.specs.declared.row.Row.{Row}
use Rattle.record_store.specs.declared.past.Past.{Past}

pub record Pasts : Type 0 where
  pub limits : Limits
  pub items : List Past
  pub floor : ℕ

abbrev pub past_by : Past → ℕ
past_by p = p.by

abbrev pub past_weight : Past → ℕ
past_weight p = p.row.record.weight

abbrev pub rows_of : List Past → List Row
rows_of ps = map (λ p. p.row) ps
