-- The rules that a document spells, or the path of the first thing that is refused in them: names are tried in their
-- order, each value before the next name, and a rule is counted before those inside it, and these before the next rule.
use Rattle.std.specs.Prelude.{◌≡◌, ℕ, suc, ◌+◌, List, [], cond, nat_lt, Option, Some, None, Result, Ok, Err}
use Rattle.std.specs.Str.{bytes_eq}
use Rattle.kj_value.specs.Json.{Json, null, boolean, whole, text, list, object, Items, no_items, item, no_members, member}
use Rattle.hub_cells.specs.Level.{Name}
use Rattle.hub_rules.specs.Sound.{IsSoundRule}
use Rattle.hub_rules.specs.Rule.{Rule, same, within, spoke_only, hub_only, split, table, scale, Rules, no_rules, rule, rules_of, rule_depth}
use Rattle.rule_reading.specs.Words.{word}
use Rattle.struct_schema.specs.PathText.{Path, here, in_name}
use Rattle.rule_reading.specs.Tried.{under_name, under_item, as_read, both, more}
use Rattle.rule_reading.specs.Shapes.{field_at, at_name, field_read, beyond, ended, text_read, names_read, scalar_read, pairs_read, factor_read}
use Rattle.rule_reading.specs.declared.words.Word.TheVariants as w
use Rattle.hub_rules.specs.declared.rules.TheConstants.{MAX_OBJECTS}
use Rattle.rule_reading.specs.declared.rules.TheConstants.{MAX_RULES}

-- ---- how many rules a rule is, with those inside it

abbrev mutual
  pub rule_size : Rule → ℕ
  rule_size (same a b) = 1
  rule_size (within a b rs) = suc (rules_size rs)
  rule_size (spoke_only a) = 1
  rule_size (hub_only b) = 1
  rule_size (split a b c) = 1
  rule_size (table a b ps x y) = 1
  rule_size (scale a b k) = 1

  pub rules_size : Rules → ℕ
  rules_size no_rules = 0
  rules_size (rule r rs) = rule_size r + rules_size rs

-- ---- rules without others inside them

abbrev pub same_read : Json → Result Rule Path
same_read j = as_read (λ p. same p.0 p.1) (names_read j)

abbrev pub spoke_only_read : Json → Result Rule Path
spoke_only_read j = as_read spoke_only (text_read j)

abbrev pub hub_only_read : Json → Result Rule Path
hub_only_read j = as_read hub_only (text_read j)

abbrev pub split_read : Json → Result Rule Path
split_read (object ms) =
    ended (beyond (field_at 2 ms)) (as_read (λ p. split p.1 p.0.0 p.0.1) (both (field_read (word w.Hub) names_read 0 ms) (field_read (word w.Spoke) text_read 1 ms)))
split_read _ = Err here

abbrev pub table_read : Json → Result Rule Path
table_read (object ms) =
    ended (beyond (field_at 4 ms)) (as_read (λ p. table p.1.0.0 p.1.0.1 p.1.1.0 p.1.1.1 p.0) (both (field_read (word w.HubBlank) scalar_read 0 ms) (both (field_read (word w.Names) names_read 1 ms)
    (both (field_read (word w.Pairs) pairs_read 2 ms) (field_read (word w.SpokeBlank) scalar_read 3 ms)))))
table_read _ = Err here

abbrev pub scale_read : Json → Result Rule Path
scale_read (object ms) =
    ended (beyond (field_at 2 ms)) (as_read (λ p. scale p.1.0 p.1.1 p.0) (both (field_read (word w.By) factor_read 0 ms) (field_read (word w.Names) names_read 1 ms)))
scale_read _ = Err here

abbrev pub plain_read : Name → Json → Result Rule Path
plain_read k j =
    cond (bytes_eq k (word w.Same)) (same_read j) (cond (bytes_eq k (word w.SpokeOnly)) (spoke_only_read j) (cond (bytes_eq k (word w.HubOnly)) (hub_only_read j)
    (cond (bytes_eq k (word w.Split)) (split_read j) (cond (bytes_eq k (word w.Table)) (table_read j) (cond (bytes_eq k (word w.Scale)) (scale_read j) (Err here))))))

-- the one name of an object, with its value
abbrev pub one_field : Json → Option (Name × Json)
one_field (object (member k j no_members)) = Some (k, j)
one_field _ = None

-- ---- all rules, so many `object` rules deep and after so many rules

abbrev pub within_by : Result ((Name × Name) × List Rule) Path → Result Rule Path
within_by r = as_read (λ p. within p.0.0 p.0.1 (rules_of p.1)) r

-- a rule by its name, given how its value is read as an `object` rule
abbrev pub rule_by : ℕ → ℕ → Name → Json → Result Rule Path → Result Rule Path
rule_by d n k j r =
    cond (nat_lt n MAX_RULES) (cond (bytes_eq k (word w.Object)) (cond (nat_lt d MAX_OBJECTS) (under_name k r) (Err here)) (under_name k (plain_read k j))) (Err here)

abbrev mutual
  -- an object of one name
  pub rule_read : ℕ → ℕ → Json → Result Rule Path
  rule_read d n null = Err here
  rule_read d n (boolean b) = Err here
  rule_read d n (whole z) = Err here
  rule_read d n (text t) = Err here
  rule_read d n (list js) = Err here
  rule_read d n (object no_members) = Err here
  rule_read d n (object (member k j no_members)) = rule_by d n k j (within_read (d + 1) (n + 1) j)
  rule_read d n (object (member k j (member l i ms))) = Err here

  -- the value of an `object` rule: its names and its rules
  pub within_read : ℕ → ℕ → Json → Result Rule Path
  within_read d n null = Err here
  within_read d n (boolean b) = Err here
  within_read d n (whole z) = Err here
  within_read d n (text t) = Err here
  within_read d n (list js) = Err here
  within_read d n (object no_members) = Err (in_name (word w.Names) here)
  within_read d n (object (member k j no_members)) =
      within_by (both (at_name (word w.Names) k (under_name (word w.Names) (names_read j))) (Err (in_name (word w.Rules) here)))
  within_read d n (object (member k j (member l i ms))) =
      ended (beyond (field_at 0 ms)) (within_by (both (at_name (word w.Names) k (under_name (word w.Names) (names_read j))) (at_name (word w.Rules) l (under_name (word w.Rules) (rules_read d n i)))))

  -- a list of rules
  pub rules_read : ℕ → ℕ → Json → Result (List Rule) Path
  rules_read d n null = Err here
  rules_read d n (boolean b) = Err here
  rules_read d n (whole z) = Err here
  rules_read d n (text t) = Err here
  rules_read d n (list js) = rules_from d n 0 js
  rules_read d n (object ms) = Err here

  -- from an item on
  pub rules_from : ℕ → ℕ → ℕ → Items → Result (List Rule) Path
  rules_from d n i no_items = Ok []
  rules_from d n i (item j js) = more (under_item i (rule_read d n j)) (λ r. rules_from d (n + rule_size r) (suc i) js)

-- for private clauses: a sound rule with no others inside it
abbrev pub Plain : Rule → Type 0
Plain r = IsSoundRule r × (rule_depth r ≡ 0) × (rule_size r ≡ 1)
