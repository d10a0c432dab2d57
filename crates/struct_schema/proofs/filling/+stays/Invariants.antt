use Rattle.std.proofs.Common.{◌≡◌, ◌+◌, ◌*◌, drop, map}
use Rattle.kj_value.specs.Json.{depth, items_depth, members_depth, items_of, members_of}
use Rattle.kj_value.specs.Seen.{json}
use Rattle.kj_value.specs.Pair.{pair_of}
use Rattle.struct_schema.specs.Shape.{some_shape}
use Rattle.struct_schema.specs.ShapeOf.{shape_of}
use Rattle.struct_schema.specs.Stays.{items_stay, names_stay}
use Rattle.struct_schema.proofs.filling.+stays.Given as goal

abbrev pub decreases-stays : goal.decreases-stays
decreases-stays l = 4 * depth (json l.v.now)

abbrev pub decreases-list_stays : goal.decreases-list_stays
decreases-list_stays l = 4 * items_depth (items_of l.items.now) + 3

abbrev pub decreases-items_stay : goal.decreases-items_stay
decreases-items_stay l = 4 * items_depth (items_of l.items.now) + 2

abbrev pub decreases-item_stays : goal.decreases-item_stays
decreases-item_stays l = 4 * depth (json l.x.now) + 1

abbrev pub decreases-object_stays : goal.decreases-object_stays
decreases-object_stays l = 4 * members_depth (members_of l.fields.now) + 3

abbrev pub decreases-names_stay : goal.decreases-names_stay
decreases-names_stay l = 4 * members_depth (members_of l.fields.now) + 2

abbrev pub decreases-name_stays : goal.decreases-name_stays
decreases-name_stays l = 4 * depth (json l.f.now.value) + 1

abbrev pub invariant-items_stay-loop-x : goal.invariant-items_stay-loop-x
invariant-items_stay-loop-x l =
    items_stay (some_shape (shape_of l.node)) (items_of (map json (drop l.x-index l.x-items))) ≡ items_stay (some_shape (shape_of l.node)) (items_of l.items)

abbrev pub invariant-names_stay-loop-f : goal.invariant-names_stay-loop-f
invariant-names_stay-loop-f l =
    names_stay (shape_of l.s) (members_of (map pair_of (drop l.f-index l.f-items))) ≡ names_stay (shape_of l.s) (members_of l.fields)
