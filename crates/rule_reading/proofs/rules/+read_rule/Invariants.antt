use Rattle.std.proofs.Common.{◌≡◌, ◌≤◌, ◌+◌, ◌*◌, drop, map}
use Rattle.kj_value.specs.Json.{depth, items_depth, members_depth, items_of, members_of}
use Rattle.kj_value.specs.Seen.{json}
use Rattle.hub_rules.specs.Rule.{rules_of, inner_depth}
use Rattle.hub_rules.specs.declared.rules.TheConstants.{MAX_OBJECTS}
use Rattle.rule_reading.specs.RuleRead.{rules_from, rules_size}
use Rattle.rule_reading.proofs.Froms.{behind}
use Rattle.rule_reading.proofs.rules.+read_rule.Given as goal

abbrev pub decreases-read_rule : goal.decreases-read_rule
decreases-read_rule l = 2 * depth (json l.v.now)

abbrev pub decreases-read_within : goal.decreases-read_within
decreases-read_within l = 2 * depth (json l.v.now)

abbrev pub decreases-read_object : goal.decreases-read_object
decreases-read_object l = 2 * members_depth (members_of l.fields.now) + 1

abbrev pub decreases-read_rules_in : goal.decreases-read_rules_in
decreases-read_rules_in l = 2 * depth (json l.v.now)

abbrev pub decreases-read_lines : goal.decreases-read_lines
decreases-read_lines l = 2 * items_depth (items_of (map json l.items.now)) + 1

abbrev pub invariant-read_lines-loop-i : goal.invariant-read_lines-loop-i
invariant-read_lines-loop-i l = record {
  read : behind l.rules (rules_from l.depth l.count l.i (items_of (map json (drop l.i l.items)))) ≡ rules_from l.depth l.initial.count 0 (items_of (map json l.items));
  deep : l.depth + inner_depth (rules_of l.rules) ≤ MAX_OBJECTS;
  counted : l.count ≡ l.initial.count + rules_size (rules_of l.rules);
}
