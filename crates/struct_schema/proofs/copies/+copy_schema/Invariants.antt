use Rattle.std.proofs.Common.{◌≡◌, ◌+◌, ◌*◌, take, map}
use Rattle.struct_schema.specs.Shape.{shape_depth, shapes_depth, map_depth, maybe_depth, shapes_of, map_of, maybe_of}
use Rattle.struct_schema.specs.ShapeOf.{shape_of, named_shape}
use Rattle.struct_schema.proofs.copies.+copy_schema.Given as goal

abbrev pub decreases-copy_schema : goal.decreases-copy_schema
decreases-copy_schema l = 3 * shape_depth (shape_of l.s.now)

abbrev pub decreases-copy_properties : goal.decreases-copy_properties
decreases-copy_properties l = 3 * map_depth (map_of l.map.now) + 2

abbrev pub decreases-copy_node : goal.decreases-copy_node
decreases-copy_node l = 3 * maybe_depth (maybe_of l.node.now) + 1

abbrev pub decreases-copy_map : goal.decreases-copy_map
decreases-copy_map l = 3 * shapes_depth (shapes_of l.map.now) + 1

abbrev pub invariant-copy_map-loop-f : goal.invariant-copy_map-loop-f
invariant-copy_map-loop-f l = map named_shape l.copies.items ≡ map named_shape (take l.f-index l.f-items)
