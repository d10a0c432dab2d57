-- The kinds of a cell, and when a tuple of the one side matches a tuple of the other.
use Rattle.std.specs.Prelude.{◌≡◌, ◌<◌, ℕ, ℤ, pos, ◌*ℤ◌, List, [], ◌∷◌, ◌++◌, false, Option, Some, None, ◌⊎◌}
use Rattle.kj_value.specs.Json.{Json, whole, text}
use Rattle.hub_cells.specs.Side.{Side, spoke, hub}
use Rattle.hub_cells.specs.Colon.{has_colon}

-- a table has its pairs of a spoke's value and the hub's, the spoke's blank and the hub's
pub data Kind : Type 0 where
  same : Kind
  spoke_only : Kind
  hub_only : Kind
  split : Kind
  table : List (Json × Json) → Json → Json → Kind
  scale : ℕ → Kind

-- the values at the names of a cell, in their order
abbrev pub Tuple : Type 0
Tuple = List (Option Json)

abbrev pub one : Json → Tuple
one j = Some j ∷ []

abbrev pub none : Tuple
none = None ∷ []

abbrev pub IsListed : Json → Json → List (Json × Json) → Type 0
IsListed i j [] = ⊥
IsListed i j (p ∷ ps) = ((p.0 ≡ i) × (p.1 ≡ j)) ⊎ IsListed i j ps

-- the spoke's tuple s and the hub's tuple h; all absent matches all absent
abbrev pub Matches : Kind → Tuple → Tuple → Type 0
Matches same s h = s ≡ h
Matches spoke_only s h = (s ≡ none) × (h ≡ [])
Matches hub_only s h = (s ≡ []) × (h ≡ none)
Matches split s h =
    ((s ≡ none) × (h ≡ None ∷ None ∷ [])) ⊎ ((a : List ℕ) × (b : List ℕ) × (has_colon b ≡ false) × (s ≡ one (text (a ++ 58 ∷ b))) × (h ≡ Some (text a) ∷ Some (text b) ∷ []))
Matches (table ps x y) s h =
    ((s ≡ none) × (h ≡ none)) ⊎ ((i : Json) × (j : Json) × IsListed i j ps × (s ≡ one i) × (h ≡ one j))
Matches (scale k) s h =
    ((s ≡ none) × (h ≡ none)) ⊎ ((z : ℤ) × (s ≡ one (whole z)) × (h ≡ one (whole (pos k *ℤ z))))

-- a tuple t of the one side and a tuple u of the other
abbrev pub MatchesFrom : Side → Kind → Tuple → Tuple → Type 0
MatchesFrom spoke k t u = Matches k t u
MatchesFrom hub k t u = Matches k u t

abbrev pub Unmatched : Side → Kind → Tuple → Type 0
Unmatched d k t = (u : Tuple) → MatchesFrom d k t u → ⊥

-- ---- what makes a match one-to-one

-- the value of a pair on the side
abbrev pub value_on : Side → Json × Json → Json
value_on spoke p = p.0
value_on hub p = p.1

abbrev pub IsNew : Side → Json → List (Json × Json) → Type 0
IsNew d j [] = Unit {0}
IsNew d j (p ∷ ps) = (value_on d p ≡ j → ⊥) × IsNew d j ps

-- no value is listed twice on the side
abbrev pub ListsOnce : Side → List (Json × Json) → Type 0
ListsOnce d [] = Unit {0}
ListsOnce d (p ∷ ps) = IsNew d (value_on d p) ps × ListsOnce d ps

-- the factor isn't 0, and a table lists no value twice on one side
abbrev pub IsRegular : Kind → Type 0
IsRegular same = Unit {0}
IsRegular spoke_only = Unit {0}
IsRegular hub_only = Unit {0}
IsRegular split = Unit {0}
IsRegular (table ps x y) = ListsOnce spoke ps × ListsOnce hub ps
IsRegular (scale k) = 0 < k
