use Rattle.std.proofs.Common.{◌≡◌, ◌+◌, ◌*◌, drop, map}
use Rattle.kj_value.specs.Json.{depth, items_depth, members_depth, items_of, members_of}
use Rattle.kj_value.specs.Seen.{json}
use Rattle.kj_value.specs.Pair.{pair_of}
use Rattle.struct_schema.specs.Shape.{some_shape}
use Rattle.struct_schema.specs.ShapeOf.{shape_of}
use Rattle.struct_schema.specs.Fault.{items_fault, members_fault}
use Rattle.struct_schema.proofs.checking.+first_fault.Given as goal

abbrev pub decreases-first_fault : goal.decreases-first_fault
decreases-first_fault l = 3 * depth (json l.v.now)

abbrev pub decreases-list_fault : goal.decreases-list_fault
decreases-list_fault l = 3 * items_depth (items_of l.items.now) + 2

abbrev pub decreases-items_fault : goal.decreases-items_fault
decreases-items_fault l = 3 * items_depth (items_of (map json l.items.now)) + 1

abbrev pub decreases-object_fault : goal.decreases-object_fault
decreases-object_fault l = 3 * members_depth (members_of l.fields.now) + 2

abbrev pub decreases-fields_fault : goal.decreases-fields_fault
decreases-fields_fault l = 3 * members_depth (members_of l.fields.now) + 1

abbrev pub invariant-items_fault-loop-i : goal.invariant-items_fault-loop-i
invariant-items_fault-loop-i l =
    items_fault (some_shape (shape_of l.s)) l.i (items_of (map json (drop l.i l.items))) ≡ items_fault (some_shape (shape_of l.s)) 0 (items_of (map json l.items))

abbrev pub invariant-fields_fault-loop-f : goal.invariant-fields_fault-loop-f
invariant-fields_fault-loop-f l =
    members_fault (shape_of l.s) (members_of (map pair_of (drop l.f-index l.f-items))) ≡ members_fault (shape_of l.s) (members_of l.fields)
