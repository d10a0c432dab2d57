-- Rules with one more at the end.
use Rattle.std.proofs.Common.{ℕ, ◌≤◌, List, [], ◌∷◌, ◌++◌, map, arith}
use Rattle.hub_rules.specs.Rule.{rules_of, rule_depth, inner_depth}
use Rattle.hub_rules.specs.Sound.{IsSoundRule, AreSoundRules}
use Rattle.hub_rules.specs.Seen.{rule}
use Rattle.hub_rules.specs.declared.rules.Line.{Line}

pub sound_push : (ls : List Line) (y : Line) → AreSoundRules (rules_of (map rule ls)) → IsSoundRule (rule y) → AreSoundRules (rules_of (map rule (ls ++ y ∷ [])))
sound_push [] y h p = (p, tt)
sound_push (x ∷ ls) y h p = (h.0, sound_push ls y h.1 p)

pub depth_push : (ls : List Line) (y : Line) (n : ℕ) → inner_depth (rules_of (map rule ls)) ≤ n → rule_depth (rule y) ≤ n → inner_depth (rules_of (map rule (ls ++ y ∷ []))) ≤ n
depth_push [] y n h p = omega arith
depth_push (x ∷ ls) y n h p =
    let rest : inner_depth (rules_of (map rule (ls ++ y ∷ []))) ≤ n = depth_push ls y n (omega (arith, h)) p in
    omega (arith, h, rest)
