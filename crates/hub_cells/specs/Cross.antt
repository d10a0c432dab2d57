-- The matching tuple of the other side, and what is shown for a tuple that has none.
use Rattle.std.specs.Prelude.{ℕ, ℤ, pos, negsuc, ◌*ℤ◌, ◌/◌, List, [], ◌∷◌, ◌++◌, cond, Option, Some, None, option_map}
use Rattle.std.specs.Ordering.{int_eq}
use Rattle.kj_value.specs.Json.{Json, null, boolean, whole, text, list, object}
use Rattle.kj_value.specs.Same.{json_same}
use Rattle.hub_cells.specs.Side.{Side, spoke, hub, other}
use Rattle.hub_cells.specs.Colon.{has_colon, at_colon}
use Rattle.hub_cells.specs.Cell.{Kind, same, spoke_only, hub_only, split, table, scale, Tuple, one, none, value_on}

-- divided and rounded down
abbrev pub quotient : ℕ → ℤ → ℤ
quotient k (pos n) = pos (n / k)
quotient k (negsuc n) = negsuc (n / k)

abbrev pub parts : Option (List ℕ × List ℕ) → Option Tuple
parts None = None
parts (Some p) = Some (Some (text p.0) ∷ Some (text p.1) ∷ [])

abbrev pub split_text : Json → Option Tuple
split_text (text t) = parts (at_colon t)
split_text null = None
split_text (boolean b) = None
split_text (whole z) = None
split_text (list js) = None
split_text (object ms) = None

abbrev pub joined : Json → Json → Option Tuple
joined (text a) (text b) = cond (has_colon b) None (Some (one (text (a ++ 58 ∷ b))))
joined _ _ = None

abbrev pub times : ℕ → Json → Option Tuple
times k (whole z) = Some (one (whole (pos k *ℤ z)))
times k null = None
times k (boolean b) = None
times k (text t) = None
times k (list js) = None
times k (object ms) = None

abbrev pub divided : ℕ → Json → Option Tuple
divided k (whole z) = cond (int_eq (pos k *ℤ quotient k z) z) (Some (one (whole (quotient k z)))) None
divided k null = None
divided k (boolean b) = None
divided k (text t) = None
divided k (list js) = None
divided k (object ms) = None

abbrev pub only_none : Tuple → Option Tuple
only_none (None ∷ []) = Some []
only_none _ = None

abbrev pub only_empty : Tuple → Option Tuple
only_empty [] = Some none
only_empty (o ∷ os) = None

-- the other side's value of the first pair that lists the value
abbrev pub partner : Side → Json → List (Json × Json) → Option Json
partner d j [] = None
partner d j (p ∷ ps) = cond (json_same (value_on d p) j) (Some (value_on (other d) p)) (partner d j ps)

abbrev pub by_table : Side → List (Json × Json) → Tuple → Option Tuple
by_table d ps (None ∷ []) = Some none
by_table d ps (Some j ∷ []) = option_map one (partner d j ps)
by_table d ps _ = None

-- from the spoke
abbrev pub to_hub_tuple : Kind → Tuple → Option Tuple
to_hub_tuple same t = Some t
to_hub_tuple spoke_only t = only_none t
to_hub_tuple hub_only t = only_empty t
to_hub_tuple split (None ∷ []) = Some (None ∷ None ∷ [])
to_hub_tuple split (Some j ∷ []) = split_text j
to_hub_tuple split _ = None
to_hub_tuple (table ps x y) t = by_table spoke ps t
to_hub_tuple (scale k) (None ∷ []) = Some none
to_hub_tuple (scale k) (Some j ∷ []) = times k j
to_hub_tuple (scale k) _ = None

-- from the hub
abbrev pub to_spoke_tuple : Kind → Tuple → Option Tuple
to_spoke_tuple same t = Some t
to_spoke_tuple spoke_only t = only_empty t
to_spoke_tuple hub_only t = only_none t
to_spoke_tuple split (None ∷ None ∷ []) = Some none
to_spoke_tuple split (Some a ∷ Some b ∷ []) = joined a b
to_spoke_tuple split _ = None
to_spoke_tuple (table ps x y) t = by_table hub ps t
to_spoke_tuple (scale k) (None ∷ []) = Some none
to_spoke_tuple (scale k) (Some j ∷ []) = divided k j
to_spoke_tuple (scale k) _ = None

abbrev pub matched : Side → Kind → Tuple → Option Tuple
matched spoke k t = to_hub_tuple k t
matched hub k t = to_spoke_tuple k t

abbrev pub rounded : ℕ → Tuple → Tuple
rounded k (Some (whole z) ∷ []) = one (whole (quotient k z))
rounded k _ = none

-- a blank that is null means absent
abbrev pub blank : Json → Tuple
blank null = none
blank (boolean b) = one (boolean b)
blank (whole z) = one (whole z)
blank (text t) = one (text t)
blank (list js) = one (list js)
blank (object ms) = one (object ms)

-- what an unmatched tuple of the side shows on the other one
abbrev pub shown : Side → Kind → Tuple → Tuple
shown spoke same t = t
shown spoke spoke_only t = []
shown spoke hub_only t = none
shown spoke split t = None ∷ None ∷ []
shown spoke (table ps x y) t = blank y
shown spoke (scale k) t = none
shown hub same t = t
shown hub spoke_only t = none
shown hub hub_only t = []
shown hub split t = none
shown hub (table ps x y) t = blank x
shown hub (scale k) t = rounded k t
