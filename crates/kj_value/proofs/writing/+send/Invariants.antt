use Rattle.std.proofs.Common.{◌+◌, ◌*◌, drop, map}
use Rattle.serde.specs.Event.{Log}
use Rattle.serde_json.specs.Events.{SendsItems, SendsMembers}
use Rattle.kj_value.specs.Json.{depth, items_depth, members_depth, items_of, members_of}
use Rattle.kj_value.specs.Seen.{json}
use Rattle.kj_value.specs.Pair.{pair_of}
use Rattle.kj_value.specs.Data.{items_data, members_data}
use Rattle.kj_value.proofs.writing.+send.Given as goal

abbrev pub decreases-send : goal.decreases-send
decreases-send g l = 2 * depth (json l.v.now)

abbrev pub decreases-send_items : goal.decreases-send_items
decreases-send_items g l = 2 * items_depth (items_of l.items.now) + 1

abbrev pub decreases-send_fields : goal.decreases-send_fields
decreases-send_fields g l = 2 * members_depth (members_of l.fields.now) + 1

-- whatever ends it well from here ends it well from the start
abbrev pub invariant-send_items-loop-x : goal.invariant-send_items-loop-x
invariant-send_items-loop-x g l =
    (end : Log) → SendsItems (items_data (items_of (map json (drop l.x-index l.x-items)))) (g.S.Serializer.written l.out) end → SendsItems (items_data (items_of (map json l.x-items))) (g.S.Serializer.written l.initial.out) end

abbrev pub invariant-send_fields-loop-f : goal.invariant-send_fields-loop-f
invariant-send_fields-loop-f g l =
    (end : Log) → SendsMembers (members_data (members_of (map pair_of (drop l.f-index l.f-items)))) (g.S.Serializer.written l.out) end → SendsMembers (members_data (members_of (map pair_of l.f-items))) (g.S.Serializer.written l.initial.out) end
