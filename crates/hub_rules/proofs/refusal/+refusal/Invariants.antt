use Rattle.std.proofs.Common.{◌≡◌, ◌+◌, ◌*◌, drop, map}
use Rattle.struct_schema.specs.ShapeOf.{shape_of}
use Rattle.hub_rules.specs.Rule.{rules_of, rule_depth, inner_depth}
use Rattle.hub_rules.specs.Seen.{rule}
use Rattle.hub_rules.specs.Refusal.{inner_fault}
use Rattle.hub_rules.proofs.refusal.+refusal.Given as goal

abbrev pub decreases-rules_fault : goal.decreases-rules_fault
decreases-rules_fault l = 3 * inner_depth (rules_of l.rules.now) + 2

abbrev pub decreases-inner_fault : goal.decreases-inner_fault
decreases-inner_fault l = 3 * inner_depth (rules_of (map rule l.lines.now)) + 1

abbrev pub decreases-within_fault : goal.decreases-within_fault
decreases-within_fault l = 3 * rule_depth (rule l.line.now)

abbrev pub invariant-inner_fault-loop-line : goal.invariant-inner_fault-loop-line
invariant-inner_fault-loop-line l =
    inner_fault (shape_of l.s) (shape_of l.h) (rules_of (map rule l.lines)) ≡ inner_fault (shape_of l.s) (shape_of l.h) (rules_of (map rule (drop l.line-index l.lines)))
