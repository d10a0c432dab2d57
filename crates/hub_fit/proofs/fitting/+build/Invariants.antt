use Rattle.std.proofs.Common.{◌≡◌, ◌<◌, ◌+◌, ◌*◌, ◌^◌, None, drop, map}
use Rattle.struct_schema.specs.ShapeOf.{shape_of}
use Rattle.hub_rules.specs.Rule.{rules_of, rule_depth, inner_depth}
use Rattle.hub_rules.specs.Seen.{rule}
use Rattle.hub_rules.specs.Refusal.{refused, schema_differs, inner_fault}
use Rattle.hub_fit.specs.Chosen.{inners_of}
use Rattle.hub_fit.specs.inner.InnerFits.{AllInnerFit, joined}
use Rattle.hub_fit.proofs.fitting.+build.Given as goal

abbrev pub decreases-build : goal.decreases-build
decreases-build l = 3 * inner_depth (rules_of l.rules.now) + 2

abbrev pub decreases-inner : goal.decreases-inner
decreases-inner l = 3 * inner_depth (rules_of (map rule l.lines.now)) + 1

abbrev pub decreases-push_inner : goal.decreases-push_inner
decreases-push_inner l = 3 * rule_depth (rule l.line.now)

abbrev pub invariant-inner-loop-line : goal.invariant-inner-loop-line
invariant-inner-loop-line l = record {
  schemas : refused schema_differs (shape_of l.s) (shape_of l.h) (rules_of (map rule (drop l.line-index l.lines))) ≡ None;
  fits : inner_fault (shape_of l.s) (shape_of l.h) (rules_of (map rule (drop l.line-index l.lines))) ≡ None;
  depth : l.depth + inner_depth (rules_of (map rule (drop l.line-index l.lines))) < 2 ^ 32;
  inners : joined l.inner.items (inners_of l.depth (shape_of l.s) (shape_of l.h) (rules_of (map rule (drop l.line-index l.lines)))) ≡ inners_of l.depth (shape_of l.s) (shape_of l.h) (rules_of (map rule l.lines));
  fitted : AllInnerFit l.depth (shape_of l.s) (shape_of l.h) (rules_of (map rule (drop l.line-index l.lines))) → AllInnerFit l.depth (shape_of l.s) (shape_of l.h) (rules_of (map rule l.lines));
}
