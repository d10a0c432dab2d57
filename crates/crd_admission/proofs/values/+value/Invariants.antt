use Rattle.std.proofs.Common.{◌≡◌, ◌+◌, ◌*◌, length, drop, map}
use Rattle.kj_value.specs.Json.{depth, items_depth, members_depth, items_of, members_of}
use Rattle.kj_value.specs.Seen.{json}
use Rattle.kj_value.specs.Pair.{pair_of}
use Rattle.kj_value.specs.Text.{more_items, more_members}
use Rattle.crd_admission.proofs.values.+value.Given as goal

abbrev pub decreases-value : goal.decreases-value
decreases-value l = 4 * depth (json l.v.now)

abbrev pub decreases-list : goal.decreases-list
decreases-list l = 4 * items_depth (items_of l.items.now) + 2

abbrev pub decreases-item : goal.decreases-item
decreases-item l = 4 * depth (json l.x.now) + 1

abbrev pub decreases-object : goal.decreases-object
decreases-object l = 4 * members_depth (members_of l.fields.now) + 2

abbrev pub decreases-field : goal.decreases-field
decreases-field l = 4 * depth (json l.f.now.value) + 1

abbrev pub invariant-list-loop-x : goal.invariant-list-loop-x
invariant-list-loop-x l =
    length (more_items (items_of (map json (drop l.x-index l.x-items)))) + l.initial.rest ≡ l.rest + length (more_items (items_of (map json l.x-items)))

abbrev pub invariant-object-loop-f : goal.invariant-object-loop-f
invariant-object-loop-f l =
    length (more_members (members_of (map pair_of (drop l.f-index l.f-items)))) + l.initial.rest ≡ l.rest + length (more_members (members_of (map pair_of l.f-items)))
