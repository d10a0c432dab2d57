use Rattle.std.proofs.Common.{◌≡◌, ◌≤◌, ◌+◌, ◌*◌, ◌++◌, ℕ, List, Option, map}
use Rattle.std.specs.Vec.Iter.{into_iter_items}
use Rattle.kj_value.specs.Json.{Json, depth, items_depth, members_depth, items_of, members_of}
use Rattle.kj_value.specs.Seen.{json}
use Rattle.kj_value.specs.Pair.{pair_of}
use Rattle.kj_value.specs.Fields.{Pairs}
use Rattle.struct_schema.specs.Shape.{some_shape}
use Rattle.struct_schema.specs.ShapeOf.{shape_of}
use Rattle.struct_schema.specs.Names.{shape_for, value_at}
use Rattle.struct_schema.specs.Filled.{RestFilled, ItemFilled, EachItem}
use Rattle.prune_default.specs.inner.Missing.{or_value}
use Rattle.prune_default.specs.Size.{items_size, members_size}
use Rattle.prune_default.proofs.filling.+fill_value.Given as goal

abbrev pub decreases-fill_value : goal.decreases-fill_value
decreases-fill_value l = 6 * depth (json l.v)

abbrev pub decreases-fill_list : goal.decreases-fill_list
decreases-fill_list l = 6 * items_depth (items_of l.items) + 3

abbrev pub decreases-fill_items : goal.decreases-fill_items
decreases-fill_items l = 6 * items_depth (items_of l.items) + 2

abbrev pub decreases-fill_item : goal.decreases-fill_item
decreases-fill_item l = 6 * depth (json l.x) + 1

abbrev pub decreases-fill_object : goal.decreases-fill_object
decreases-fill_object l = 6 * members_depth (members_of l.fields) + 4

abbrev pub decreases-fill_names : goal.decreases-fill_names
decreases-fill_names l = 6 * members_depth (members_of l.fields) + 3

abbrev pub decreases-fill_name : goal.decreases-fill_name
decreases-fill_name l = 6 * depth (json l.value) + 2

abbrev pub decreases-fill_present : goal.decreases-fill_present
decreases-fill_present l = 6 * depth (json l.value) + 1

abbrev pub invariant-fill_items-loop-x : goal.invariant-fill_items-loop-x
invariant-fill_items-loop-x l =
    (done : List Json) × (l.fn.items ≡ done ++ map json (into_iter_items l.x-iterator)) × EachItem (λ x y. ItemFilled (some_shape (shape_of l.fn.node)) x y) (items_of done) (items_of l.filled)
    × (items_size (items_of l.filled) + items_size (items_of (map json (into_iter_items l.x-iterator))) + l.room ≤ items_size (items_of l.fn.items) + l.fn.room)

abbrev pub invariant-fill_names-loop-f : goal.invariant-fill_names-loop-f
invariant-fill_names-loop-f l =
    (done : Pairs) × (l.fn.fields ≡ done ++ map pair_of (into_iter_items l.f-iterator))
    × ((n : List ℕ) (w : Option Json) → RestFilled (shape_for (shape_of l.fn.s) n) l.fn.s.preserve (value_at n (members_of (map pair_of (into_iter_items l.f-iterator)))) w → RestFilled (shape_for (shape_of l.fn.s) n) l.fn.s.preserve (value_at n (members_of l.fn.fields)) (or_value w (value_at n (members_of l.kept))))
    × (members_size (members_of l.kept) + members_size (members_of (map pair_of (into_iter_items l.f-iterator))) + l.room ≤ members_size (members_of l.fn.fields) + l.fn.room)
