-- At which of some versions a record stands. What is said of records is said of anything that has a version and a key.
use Rattle.std.specs.Prelude.{ℕ, List, [], ◌∷◌, Option, None, Some}
use Rattle.kube_meta.specs.Key.{KeyView}
pub use Rattle.kube_meta.specs.AtVersion.{first_at}
use Rattle.record_store.specs.declared.row.Row.{Row}
use Rattle.record_store.specs.View.{Item}

abbrev pub item_at : Item → ℕ
item_at x = x.at

abbrev pub at_version : ℕ → Option KeyView → Option (ℕ × KeyView) → Option (ℕ × KeyView)
at_version v None more = more
at_version v (Some k) more = Some (v, k)

-- the first of some versions at which a record stands, with the key of the first record there
abbrev pub first_held : {X : Type 0} → (X → ℕ) → (X → KeyView) → List ℕ → List X → Option (ℕ × KeyView)
first_held at key [] xs = None
first_held at key (v ∷ vs) xs = at_version v (first_at at key v xs) (first_held at key vs xs)

-- ---- for private clauses

abbrev pub row_at : Row → ℕ
row_at r = r.record.at
