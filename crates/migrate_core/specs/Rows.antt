-- Records by key, as far as a migration reads them: a list by rising key.
use Rattle.std.specs.Prelude.{ℕ, List, [], ◌∷◌, Option, None, Some, map, if◌then◌else◌}
use Rattle.kube_meta.specs.Key.{KeyView}
use Rattle.kube_meta.specs.Plan.{Bound, Span, passed}
use Rattle.kube_meta.specs.AtVersion as at_version
use Rattle.migrate_core.specs.declared.records.Row.{Row}
pub use Rattle.kube_meta.specs.ByKey.{IsBelowFirst, KeysRise}

abbrev pub row_key : Row → KeyView
row_key e = e.key

abbrev pub row_at : Row → ℕ
row_at e = e.at

abbrev pub keys : List Row → List KeyView
keys es = map row_key es

-- the first record behind a bound
abbrev pub first_behind : Bound → List Row → Option Row
first_behind b [] = None
first_behind b (e ∷ es) = if passed b e.key then first_behind b es else Some e

-- the first record of a span that stands elsewhere
abbrev pub elsewhere : Span → ℕ → List Row → Option Row
elsewhere r v es = at_version.elsewhere row_at row_key r v es
