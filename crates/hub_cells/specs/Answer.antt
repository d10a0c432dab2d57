-- What crossing answers: the matching tuple, or the shown one, and whether it matched.
use Rattle.std.specs.Prelude.{◌<◌, ℕ, pos, ◌*ℤ◌, FitsSigned, [], ◌∷◌, Bool, true, false, Option, Some, None}
use Rattle.std.specs.Int.{w64}
use Rattle.kj_value.specs.Json.{whole}
use Rattle.hub_cells.specs.Side.{Side, spoke, hub}
use Rattle.hub_cells.specs.Cell.{Kind, same, spoke_only, hub_only, split, table, scale, Tuple}
use Rattle.hub_cells.specs.Cross.{matched, shown}

abbrev pub answer_by : Option Tuple → Tuple → Tuple × Bool
answer_by None t = (t, false)
answer_by (Some u) t = (u, true)

abbrev pub answer : Side → Kind → Tuple → Tuple × Bool
answer d k t = answer_by (matched d k t) (shown d k t)

abbrev pub ProductFits : ℕ → Tuple → Type 0
ProductFits k (Some (whole z) ∷ []) = FitsSigned w64 (pos k *ℤ z)
ProductFits k _ = Unit {0}

-- the factor is one, and a spoke's value times it is a number of 64 bits
abbrev pub CanCross : Side → Kind → Tuple → Type 0
CanCross spoke (scale k) t = (0 < k) × ProductFits k t
CanCross hub (scale k) t = 0 < k
CanCross d same t = Unit {0}
CanCross d spoke_only t = Unit {0}
CanCross d hub_only t = Unit {0}
CanCross d split t = Unit {0}
CanCross d (table ps x y) t = Unit {0}
