use Rattle.std.proofs.Common.{◌≡◌, map, drop}
use Rattle.hub_rules.specs.Rule.{rules_of}
use Rattle.hub_rules.specs.Seen.{rule}
use Rattle.struct_schema.specs.ShapeOf.{shape_of}
use Rattle.hub_rules.specs.Sound.{AreSoundRules}
use Rattle.hub_rules.specs.inner.Spots.{why}
use Rattle.hub_rules.specs.Refusal.{refused}
use Rattle.hub_rules.proofs.level.refused.Given as goal

abbrev pub invariant-loop-line : goal.invariant-loop-line
invariant-loop-line l =
    AreSoundRules (rules_of (map rule (drop l.line-index l.lines))) × (refused (why l.reason) (shape_of l.s) (shape_of l.h) (rules_of (map rule l.lines)) ≡ refused (why l.reason) (shape_of l.s) (shape_of l.h) (rules_of (map rule (drop l.line-index l.lines))))
