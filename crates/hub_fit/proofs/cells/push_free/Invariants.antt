use Rattle.std.proofs.Common.{◌≡◌, ◌++◌, map, drop}
use Rattle.struct_schema.specs.Shape.{shapes_of}
use Rattle.struct_schema.specs.ShapeOf.{shape_of, named_shape}
use Rattle.hub_cells.specs.Side.{spoke}
use Rattle.hub_cells.specs.Seen.{cell}
use Rattle.hub_rules.specs.Rule.{rules_of, names_on}
use Rattle.hub_rules.specs.Seen.{rule}
use Rattle.hub_fit.specs.Chosen.{free_cells}
use Rattle.hub_fit.proofs.cells.push_free.Given as goal

abbrev pub invariant-loop-f : goal.invariant-loop-f
invariant-loop-f l =
    map cell l.cells.items ++ free_cells l.depth (shape_of l.s) (shape_of l.h) (names_on spoke (rules_of (map rule l.lines))) (shapes_of (map named_shape (drop l.f-index l.fields))) ≡ map cell l.initial.cells.items ++ free_cells l.depth (shape_of l.s) (shape_of l.h) (names_on spoke (rules_of (map rule l.lines))) (shapes_of (map named_shape l.fields))
