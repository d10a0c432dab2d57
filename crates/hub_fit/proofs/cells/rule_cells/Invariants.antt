use Rattle.std.proofs.Common.{◌≡◌, [], ◌++◌, map, drop}
use Rattle.struct_schema.specs.ShapeOf.{shape_of}
use Rattle.hub_cells.specs.Seen.{cell}
use Rattle.hub_rules.specs.Rule.{rules_of}
use Rattle.hub_rules.specs.Seen.{rule}
use Rattle.hub_fit.specs.Chosen.{cells_before}
use Rattle.hub_fit.proofs.cells.rule_cells.Given as goal

abbrev pub invariant-loop-line : goal.invariant-loop-line
invariant-loop-line l =
    map cell l.cells.items ++ cells_before l.depth (shape_of l.s) (shape_of l.h) (rules_of (map rule (drop l.line-index l.lines))) [] ≡ cells_before l.depth (shape_of l.s) (shape_of l.h) (rules_of (map rule l.lines)) []
