-- For private clauses: a name that comes after all names of a list of fields.
use Rattle.std.specs.Prelude.{◌≡◌, ℕ, List, [], ◌∷◌}
use Rattle.std.specs.Ordering.{nat_cmp}
use Rattle.std.specs.declared.cmp.Ordering.TheVariants.{Greater}
use Rattle.std.specs.Cmp.Lexicographic.{slice_cmp}
use Rattle.kj_value.specs.Fields.{Pairs}

abbrev pub IsAfter : List ℕ → List ℕ → Type 0
IsAfter k l = slice_cmp nat_cmp k l ≡ Greater

abbrev pub Follows : List ℕ → Pairs → Type 0
Follows k [] = Unit {0}
Follows k (e ∷ es) = IsAfter k e.0 × Follows k es
