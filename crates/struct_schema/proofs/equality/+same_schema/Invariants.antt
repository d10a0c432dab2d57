use Rattle.std.proofs.Common.{◌≡◌, ◌+◌, ◌*◌, drop, map}
use Rattle.struct_schema.specs.Shape.{shape_depth, shapes_depth, map_depth, maybe_depth, shapes_of, map_of, maybe_of}
use Rattle.struct_schema.specs.ShapeOf.{shape_of, named_shape}
use Rattle.struct_schema.specs.ShapeSame.{shapes_same}
use Rattle.struct_schema.proofs.equality.+same_schema.Given as goal

abbrev pub decreases-same_schema : goal.decreases-same_schema
decreases-same_schema l = 3 * shape_depth (shape_of l.a.now)

abbrev pub decreases-same_properties : goal.decreases-same_properties
decreases-same_properties l = 3 * map_depth (map_of l.a.now) + 2

abbrev pub decreases-same_node : goal.decreases-same_node
decreases-same_node l = 3 * maybe_depth (maybe_of l.a.now) + 1

abbrev pub decreases-same_fields : goal.decreases-same_fields
decreases-same_fields l = 3 * shapes_depth (shapes_of (map named_shape l.xs.now)) + 1

abbrev pub invariant-same_fields-loop-i : goal.invariant-same_fields-loop-i
invariant-same_fields-loop-i l =
    shapes_same (shapes_of (map named_shape (drop l.i l.xs))) (shapes_of (map named_shape (drop l.i l.ys))) ≡ shapes_same (shapes_of (map named_shape l.xs)) (shapes_of (map named_shape l.ys))
