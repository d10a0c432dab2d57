-- The kinds of rules as cells. `spokeOnly` and `hubOnly` are none: the name is in no cell, and what stands there is the side's own.
use Rattle.std.specs.Prelude.{◌≡◌, ◌*ℤ◌, ℕ, pos, List, [], ◌∷◌, length, cond, Option, Some, None, is_some}
use Rattle.kj_value.specs.Json.{Json, null, boolean, whole, text, list, object}
use Rattle.hub_cells.specs.Side.{Side, spoke, hub}
use Rattle.hub_cells.specs.Cell.{Kind, same, spoke_only, hub_only, split, table, scale, Tuple, one, none}
use Rattle.hub_cells.specs.Cross.{matched, shown, rounded}
use Rattle.hub_cells.specs.Level.{Name, is_word}
use Rattle.body_laws.specs.Cell.{Cell, cell_of}

-- the matching tuple, or else the one that is shown
abbrev pub match_or : Option Tuple → Tuple → Tuple
match_or None t = t
match_or (Some u) t = u

abbrev pub kind_cell : (Side → List Name) → Kind → Cell
kind_cell ns k =
    record { names = ns; shown = λ d t. match_or (matched d k t) (shown d k t); matches = λ d t. is_some (matched d k t) }

-- the product where it has 64 bits, and else nothing
abbrev pub product : ℕ → Json → Tuple
product k (whole z) = cond (is_word (whole (pos k *ℤ z))) (one (whole (pos k *ℤ z))) none
product k null = none
product k (boolean b) = none
product k (text t) = none
product k (list js) = none
product k (object ms) = none

abbrev pub products : ℕ → Tuple → Tuple
products k (Some j ∷ []) = product k j
products k _ = none

-- times k to the hub, and rounded down from there
abbrev pub scaled : ℕ → Side → Tuple → Tuple
scaled k spoke t = products k t
scaled k hub t = rounded k t

-- a number whose product has more than 64 bits is kept: there is no such number at the hub
abbrev pub rule_cell : (Side → List Name) → Kind → Cell
rule_cell ns same = kind_cell ns same
rule_cell ns spoke_only = kind_cell ns spoke_only
rule_cell ns hub_only = kind_cell ns hub_only
rule_cell ns split = kind_cell ns split
rule_cell ns (table ps x y) = kind_cell ns (table ps x y)
rule_cell ns (scale k) = cell_of ns (scaled k)

-- so many names at the spoke, and at the hub
pub record HasNames (ns : Side → List Name) (m n : ℕ) : Type 0 where
  pub spoke : length (ns spoke) ≡ m
  pub hub : length (ns hub) ≡ n

-- one name a side, but two at the hub for `split`
abbrev pub IsNamed : (Side → List Name) → Kind → Type 0
IsNamed ns same = HasNames ns 1 1
IsNamed ns spoke_only = ⊥
IsNamed ns hub_only = ⊥
IsNamed ns split = HasNames ns 1 2
IsNamed ns (table ps x y) = HasNames ns 1 1
IsNamed ns (scale k) = HasNames ns 1 1
