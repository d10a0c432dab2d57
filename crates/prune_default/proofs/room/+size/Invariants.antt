use Rattle.std.proofs.Common.{◌≡◌, ◌+◌, ◌*◌, drop, map}
use Rattle.kj_value.specs.Json.{depth, items_depth, members_depth, items_of, members_of}
use Rattle.kj_value.specs.Seen.{json}
use Rattle.kj_value.specs.Pair.{pair_of}
use Rattle.prune_default.specs.Size.{items_size, members_size}
use Rattle.prune_default.proofs.room.+size.Given as goal

abbrev pub decreases-beside_value : goal.decreases-beside_value
decreases-beside_value l = 3 * depth (json l.v.now)

abbrev pub decreases-beside_field : goal.decreases-beside_field
decreases-beside_field l = 3 * depth (json l.v.now) + 1

abbrev pub decreases-beside_items : goal.decreases-beside_items
decreases-beside_items l = 3 * items_depth (items_of l.items.now) + 2

abbrev pub decreases-beside_fields : goal.decreases-beside_fields
decreases-beside_fields l = 3 * members_depth (members_of l.fields.now) + 2

abbrev pub invariant-beside_items-loop-x : goal.invariant-beside_items-loop-x
invariant-beside_items-loop-x l =
    l.left + (1 + items_size (items_of l.items)) ≡ l.fn.room + items_size (items_of (map json (drop l.x-index l.x-items)))

abbrev pub invariant-beside_fields-loop-f : goal.invariant-beside_fields-loop-f
invariant-beside_fields-loop-f l =
    l.left + (1 + members_size (members_of l.fields)) ≡ l.fn.room + members_size (members_of (map pair_of (drop l.f-index l.f-items)))
