-- For private clauses: a cell's entry, by the first name of its part.
use Rattle.std.specs.Prelude.{◌≡◌, ℕ, List, [], ◌∷◌, true, false, cond, Option, Some, None, slice_get, ◌⊎◌}
use Rattle.std.specs.Ordering.{is_eq}
use Rattle.hub_cells.specs.Cell.{Tuple}
use Rattle.hub_cells.specs.Level.{Name, tuple_of}
use Rattle.hub_cells.specs.Fit.{has_name}
use Rattle.kept_entries.specs.declared.entry.Entry.{Entry}
use Rattle.keep_laws.specs.Entry.{is_part}
use Rattle.keep_bodies.specs.inner.Spots.{spot, spot_cmp}

-- the first entry at this level whose part begins with the name
abbrev pub find : Name → List Entry → Option Entry
find n [] = None
find n (e ∷ es) = cond (is_eq (spot_cmp (spot e) (false, n))) (Some e) (find n es)

-- its values, where all its names are the cell's
abbrev pub part_of : List Name → Option Entry → Option Tuple
part_of ns None = None
part_of ns (Some e) = cond (is_part ns e.was) (Some (tuple_of ns e.was)) None

-- the names are these two
abbrev pub AreTwo : List Name → Name → Name → Type 0
AreTwo ns m n = (k : Name) → has_name k ns ≡ true → (k ≡ m) ⊎ (k ≡ n)

-- the entry e, which stands at a place and keeps the values o of the cell
pub record IsFound (ns : List Name) (es : List Entry) (o : Option Tuple) (i : ℕ) (e : Entry) : Type 0 where
  pub place : slice_get es i ≡ Some e
  pub here : e.at ≡ []
  pub part : is_part ns e.was ≡ true
  pub kept : o ≡ Some (tuple_of ns e.was)
