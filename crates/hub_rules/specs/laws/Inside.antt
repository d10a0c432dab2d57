-- For measures: a rule read at a place of a list is no deeper than the list.
use Rattle.std.proofs.Common.{◌≡◌, ℕ, zero, suc, ◌<◌, ◌≤◌, List, [], ◌∷◌, length, get_or, map, arith}
use Rattle.hub_rules.specs.Rule.{Rule, rule_depth, inner_depth, rules_of}
use Rattle.hub_rules.specs.Seen.{rule}
use Rattle.hub_rules.specs.declared.rules.Line.{Line}

depth-get_or : (rs : List Line) (i : ℕ) (d : Line) → i < length rs → rule_depth (rule (get_or rs i d)) ≤ inner_depth (rules_of (map rule rs))
depth-get_or [] i d p = absurd (omega arith)
depth-get_or (r ∷ rs) zero d p = omega arith
depth-get_or (r ∷ rs) (suc i) d p = omega (arith, depth-get_or rs i d (omega arith))

pub line_depth : (rs : List Line) (es : List Rule) (i : ℕ) (r : Line) → map rule rs ≡ es → i < length rs → r ≡ get_or rs i r → rule_depth (rule r) ≤ inner_depth (rules_of es)
line_depth rs es i r e p q =
    let bound : rule_depth (rule (get_or rs i r)) ≤ inner_depth (rules_of (map rule rs)) = depth-get_or rs i r p in
    rw (← e, q) bound
