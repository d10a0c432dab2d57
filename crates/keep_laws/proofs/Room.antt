-- The levels that rules mean nest no deeper than the rules.
use Rattle.std.proofs.Common.{ℕ, suc, ◌+◌, ◌<◌, ◌≤◌, arith}
use Rattle.std.specs.Prelude.{max}
use Rattle.struct_schema.specs.Shape.{Shape}
use Rattle.hub_cells.specs.declared.allowed.TheConstants.{STORED_LEVELS}
use Rattle.hub_cells.specs.Level.{Inners}
use Rattle.hub_cells.specs.LevelDepth.{inners_depth}
use Rattle.hub_rules.specs.Rule.{Rule, same, within, spoke_only, hub_only, split, table, scale, Rules, no_rules, rule, rule_depth, inner_depth}
use Rattle.hub_rules.specs.Refusal.{node_at}
use Rattle.hub_fit.specs.Chosen.{with_inner, inners_of, fit_of}
use Rattle.keep_laws.specs.FittedBody.{HasRoom}

mutual
  rule_room : (n : ℕ) (s h : Shape) (r : Rule) (is : Inners) (m : ℕ) → inners_depth is ≤ m → inners_depth (with_inner n s h r is) ≤ max (rule_depth r) m
  rule_room n s h (same a b) is m p = omega arith
  rule_room n s h (within a b ts) is m p =
      let here : inners_depth (inners_of (suc n) (node_at a s) (node_at b h) ts) ≤ inner_depth ts = rules_room (suc n) (node_at a s) (node_at b h) ts in
      omega arith
  rule_room n s h (spoke_only a) is m p = omega arith
  rule_room n s h (hub_only b) is m p = omega arith
  rule_room n s h (split a b c) is m p = omega arith
  rule_room n s h (table a b ps x y) is m p = omega arith
  rule_room n s h (scale a b k) is m p = omega arith

  pub rules_room : (n : ℕ) (s h : Shape) (rs : Rules) → inners_depth (inners_of n s h rs) ≤ inner_depth rs
  rules_room n s h no_rules = omega arith
  rules_room n s h (rule r rs) = rule_room n s h r (inners_of n s h rs) (inner_depth rs) (rules_room n s h rs)

pub room_of : (n : ℕ) (s h : Shape) (rs : Rules) → n + inner_depth rs < STORED_LEVELS → HasRoom (fit_of n s h rs)
room_of n s h rs p =
    let deep : inners_depth (inners_of n s h rs) ≤ inner_depth rs = rules_room n s h rs in
    omega arith
