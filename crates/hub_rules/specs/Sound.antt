-- What rules keep in their type: a table's values and blanks are scalars, a factor is from 2 to 1,000,000,000, and no
-- `within` stands inside eight others.
use Rattle.std.specs.Prelude.{◌≤◌, List, [], ◌∷◌}
use Rattle.kj_value.specs.Json.{Json, null, boolean, whole, text, list, object}
use Rattle.kj_value.specs.Sound.{IsSoundJson as IsValue}
use Rattle.hub_rules.specs.Rule.{Rule, same, within, spoke_only, hub_only, split, table, scale, Rules, no_rules, rule}

-- null, a truth value, a number of 64 bits or a text
abbrev pub IsScalar : Json → Type 0
IsScalar null = Unit {0}
IsScalar (boolean b) = Unit {0}
IsScalar (whole z) = IsValue (whole z)
IsScalar (text s) = Unit {0}
IsScalar (list js) = ⊥
IsScalar (object ms) = ⊥

abbrev pub AreScalars : List (Json × Json) → Type 0
AreScalars [] = Unit {0}
AreScalars (p ∷ ps) = IsScalar p.0 × IsScalar p.1 × AreScalars ps

abbrev mutual
  pub IsSoundRule : Rule → Type 0
  IsSoundRule (same a b) = Unit {0}
  IsSoundRule (within a b rs) = AreSoundRules rs
  IsSoundRule (spoke_only a) = Unit {0}
  IsSoundRule (hub_only b) = Unit {0}
  IsSoundRule (split a b c) = Unit {0}
  IsSoundRule (table a b ps x y) = AreScalars ps × IsScalar x × IsScalar y
  IsSoundRule (scale a b k) = (2 ≤ k) × (k ≤ 1000000000)

  pub AreSoundRules : Rules → Type 0
  AreSoundRules no_rules = Unit {0}
  AreSoundRules (rule r rs) = IsSoundRule r × AreSoundRules rs
