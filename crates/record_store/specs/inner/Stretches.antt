-- The rows of a namespace behind a key lie one behind another, for private clauses.
use Rattle.std.specs.Prelude.{ℕ, Bool, List, not, if◌then◌else◌}
use Rattle.std.specs.Ordering.{is_gt, is_lt, nat_cmp}
use Rattle.std.specs.Cmp.Lexicographic.{slice_cmp}
use Rattle.kube_meta.specs.Key.{KeyView}

-- a key comes before those of a namespace, or, with them, before those of later ones
abbrev pub comes_before : Bool → List ℕ → KeyView → Bool
comes_before with_them ns k = if with_them then not (is_gt (slice_cmp nat_cmp k.ns ns)) else is_lt (slice_cmp nat_cmp k.ns ns)
