use Rattle.std.proofs.Common.{◌≡◌, map, drop}
use Rattle.hub_rules.specs.Rule.{rules_of}
use Rattle.hub_rules.specs.Seen.{rule}
use Rattle.struct_schema.specs.ShapeOf.{shape_of}
use Rattle.hub_rules.specs.Refusal.{absent_from}
use Rattle.hub_rules.proofs.names.absent_from.Given as goal

abbrev pub invariant-loop-line : goal.invariant-loop-line
invariant-loop-line l =
    absent_from (shape_of l.s) (shape_of l.h) (rules_of (map rule l.lines)) ≡ absent_from (shape_of l.s) (shape_of l.h) (rules_of (map rule (drop l.line-index l.lines)))
