-- The rules of one level, each with the names that it has on either side.
use Rattle.std.specs.Prelude.{ℕ, suc, max, List, [], ◌∷◌, ◌++◌}
use Rattle.kj_value.specs.Json.{Json}
use Rattle.hub_cells.specs.Side.{Side, spoke, hub}
use Rattle.hub_cells.specs.Level.{Name}

-- a table has its pairs, the spoke's blank and the hub's; `within` pairs two objects by rules of their own
mutual
  pub data Rule : Type 0 where
    same : Name → Name → Rule
    within : Name → Name → Rules → Rule
    spoke_only : Name → Rule
    hub_only : Name → Rule
    split : Name → Name → Name → Rule
    table : Name → Name → List (Json × Json) → Json → Json → Rule
    scale : Name → Name → ℕ → Rule

  pub data Rules : Type 0 where
    no_rules : Rules
    rule : Rule → Rules → Rules

abbrev pub rules_of : List Rule → Rules
rules_of [] = no_rules
rules_of (r ∷ rs) = rule r (rules_of rs)

abbrev pub spoke_names : Rule → List Name
spoke_names (same a b) = a ∷ []
spoke_names (within a b rs) = a ∷ []
spoke_names (spoke_only a) = a ∷ []
spoke_names (hub_only b) = []
spoke_names (split a b c) = a ∷ []
spoke_names (table a b ps x y) = a ∷ []
spoke_names (scale a b k) = a ∷ []

abbrev pub hub_names : Rule → List Name
hub_names (same a b) = b ∷ []
hub_names (within a b rs) = b ∷ []
hub_names (spoke_only a) = []
hub_names (hub_only b) = b ∷ []
hub_names (split a b c) = b ∷ c ∷ []
hub_names (table a b ps x y) = b ∷ []
hub_names (scale a b k) = b ∷ []

abbrev pub rule_names : Side → Rule → List Name
rule_names spoke r = spoke_names r
rule_names hub r = hub_names r

-- all names of the rules on the side
abbrev pub names_on : Side → Rules → List Name
names_on d no_rules = []
names_on d (rule r rs) = rule_names d r ++ names_on d rs

-- how many `within` stand one inside the other
abbrev mutual
  pub rule_depth : Rule → ℕ
  rule_depth (same a b) = 0
  rule_depth (within a b rs) = suc (inner_depth rs)
  rule_depth (spoke_only a) = 0
  rule_depth (hub_only b) = 0
  rule_depth (split a b c) = 0
  rule_depth (table a b ps x y) = 0
  rule_depth (scale a b k) = 0

  pub inner_depth : Rules → ℕ
  inner_depth no_rules = 0
  inner_depth (rule r rs) = max (rule_depth r) (inner_depth rs)
