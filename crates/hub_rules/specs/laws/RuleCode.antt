-- How the logic stores rules: as a tree of numbers, one for each.
use Rattle.std.specs.Prelude.{◌≡◌, ℕ, List, [], cond, ◌==◌, refl}
use Rattle.std.proofs.Common.{ap₂, sym, ◌∙◌}
use Rattle.std.specs.Coded.{Coded, coded_ℕ, coded_list, coded×}
use base.Stored.{Gv, gnil, gcons}
use Rattle.kj_value.specs.Json.{Json, null}
use Rattle.kj_value.specs.laws.JsonCode.{json_code}
use Rattle.hub_cells.specs.Level.{Name}
use Rattle.hub_cells.specs.laws.FitCode.{name_code}
use Rattle.hub_rules.specs.Rule.{Rule, same, within, spoke_only, hub_only, split, table, scale, Rules, no_rules, rule}

-- ---- a rule by its number, its names, and what else it holds but for rules

abbrev pub RuleNames : Type 0
RuleNames = Name × (Name × Name)

abbrev pub RuleContents : Type 0
RuleContents = List (Json × Json) × (Json × (Json × ℕ))

abbrev pub Flat : Type 0
Flat = ℕ × (RuleNames × RuleContents)

abbrev pub flat_code : Coded Flat
flat_code =
    coded× coded_ℕ (coded× (coded× name_code (coded× name_code name_code)) (coded× (coded_list (coded× json_code json_code)) (coded× json_code (coded× json_code coded_ℕ))))

abbrev pub nothing : ℕ → RuleContents
nothing k = ([], (null, (null, k)))

abbrev pub flat : Rule → Flat
flat (same a b) = (0, ((a, (b, [])), nothing 0))
flat (within a b rs) = (1, ((a, (b, [])), nothing 0))
flat (spoke_only a) = (2, ((a, ([], [])), nothing 0))
flat (hub_only b) = (3, ((b, ([], [])), nothing 0))
flat (split a b c) = (4, ((a, (b, c)), nothing 0))
flat (table a b ps x y) = (5, ((a, (b, [])), (ps, (x, (y, 0)))))
flat (scale a b k) = (6, ((a, (b, [])), nothing k))

abbrev pub rules_in : Rule → Rules
rules_in (same a b) = no_rules
rules_in (within a b rs) = rs
rules_in (spoke_only a) = no_rules
rules_in (hub_only b) = no_rules
rules_in (split a b c) = no_rules
rules_in (table a b ps x y) = no_rules
rules_in (scale a b k) = no_rules

abbrev pub back : Flat → Rules → Rule
back f rs =
    cond (f.0 == 0) (same f.1.0.0 f.1.0.1.0) (cond (f.0 == 1) (within f.1.0.0 f.1.0.1.0 rs) (cond (f.0 == 2) (spoke_only f.1.0.0) (cond (f.0 == 3) (hub_only f.1.0.0) (cond (f.0 == 4) (split f.1.0.0 f.1.0.1.0 f.1.0.1.1) (cond (f.0 == 5) (table f.1.0.0 f.1.0.1.0 f.1.1.0 f.1.1.1.0 f.1.1.1.1.0) (scale f.1.0.0 f.1.0.1.0 f.1.1.1.1.1))))))

back-flat : (r : Rule) → back (flat r) (rules_in r) ≡ r
back-flat (same a b) = refl
back-flat (within a b rs) = refl
back-flat (spoke_only a) = refl
back-flat (hub_only b) = refl
back-flat (split a b c) = refl
back-flat (table a b ps x y) = refl
back-flat (scale a b k) = refl

-- ---- trees

abbrev mutual
  pub rule_tree : Rule → Gv
  rule_tree (same a b) = gcons (flat_code.code (flat (same a b))) gnil
  rule_tree (within a b rs) = gcons (flat_code.code (flat (within a b rs))) (rules_tree rs)
  rule_tree (spoke_only a) = gcons (flat_code.code (flat (spoke_only a))) gnil
  rule_tree (hub_only b) = gcons (flat_code.code (flat (hub_only b))) gnil
  rule_tree (split a b c) = gcons (flat_code.code (flat (split a b c))) gnil
  rule_tree (table a b ps x y) = gcons (flat_code.code (flat (table a b ps x y))) gnil
  rule_tree (scale a b k) = gcons (flat_code.code (flat (scale a b k))) gnil

  pub rules_tree : Rules → Gv
  rules_tree no_rules = gnil
  rules_tree (rule r rs) = gcons (rule_tree r) (rules_tree rs)

tree_is : (r : Rule) → rule_tree r ≡ gcons (flat_code.code (flat r)) (rules_tree (rules_in r))
tree_is (same a b) = refl
tree_is (within a b rs) = refl
tree_is (spoke_only a) = refl
tree_is (hub_only b) = refl
tree_is (split a b c) = refl
tree_is (table a b ps x y) = refl
tree_is (scale a b k) = refl

left : (a b c d : Gv) → gcons a b ≡ gcons c d → a ≡ c
left a b c d e = cc

right : (a b c d : Gv) → gcons a b ≡ gcons c d → b ≡ d
right a b c d e = cc

empty_inj : (rs : Rules) → gnil ≡ rules_tree rs → no_rules ≡ rs
empty_inj no_rules e = refl
empty_inj (rule r rs) e = absurd (cc)

-- of one number, names and other things, and of one list of rules
one_rule : (r q : Rule) → rule_tree r ≡ rule_tree q → (rules_tree (rules_in r) ≡ rules_tree (rules_in q) → rules_in r ≡ rules_in q) → r ≡ q
one_rule r q e inside =
    let e1 = sym (tree_is r) ∙ e ∙ tree_is q in
    let flat_is : flat r ≡ flat q = flat_code.inj (flat r) (flat q) (left (flat_code.code (flat r)) (rules_tree (rules_in r)) (flat_code.code (flat q)) (rules_tree (rules_in q)) e1) in
    let rules_are : rules_in r ≡ rules_in q = inside (right (flat_code.code (flat r)) (rules_tree (rules_in r)) (flat_code.code (flat q)) (rules_tree (rules_in q)) e1) in
    sym (back-flat r) ∙ ap₂ back flat_is rules_are ∙ back-flat q

mutual
  pub rule_inj : (r q : Rule) → rule_tree r ≡ rule_tree q → r ≡ q
  rule_inj (same a b) q e = one_rule (same a b) q e (empty_inj (rules_in q))
  rule_inj (within a b rs) q e = one_rule (within a b rs) q e (λ i. rules_inj rs (rules_in q) i)
  rule_inj (spoke_only a) q e = one_rule (spoke_only a) q e (empty_inj (rules_in q))
  rule_inj (hub_only b) q e = one_rule (hub_only b) q e (empty_inj (rules_in q))
  rule_inj (split a b c) q e = one_rule (split a b c) q e (empty_inj (rules_in q))
  rule_inj (table a b ps x y) q e = one_rule (table a b ps x y) q e (empty_inj (rules_in q))
  rule_inj (scale a b k) q e = one_rule (scale a b k) q e (empty_inj (rules_in q))

  pub rules_inj : (rs qs : Rules) → rules_tree rs ≡ rules_tree qs → rs ≡ qs
  rules_inj no_rules qs e = empty_inj qs e
  rules_inj (rule r rs) no_rules e = absurd (cc)
  rules_inj (rule r rs) (rule q qs) e =
      let rule_is : r ≡ q = rule_inj r q (left (rule_tree r) (rules_tree rs) (rule_tree q) (rules_tree qs) e) in
      let rest_is : rs ≡ qs = rules_inj rs qs (right (rule_tree r) (rules_tree rs) (rule_tree q) (rules_tree qs) e) in
      cc (rule_is, rest_is)

abbrev pub rule_code : Coded Rule
rule_code = record { code = rule_tree; inj = rule_inj }
