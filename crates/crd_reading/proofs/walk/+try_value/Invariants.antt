use Rattle.std.proofs.Common.{◌≡◌, ◌+◌, ◌*◌, [], drop, map}
use denote.Shadow.{shadow}
use denote.Text.{Utf8}
use Rattle.kj_value.specs.Json.{depth, items_depth, members_depth, items_of, members_of}
use Rattle.kj_value.specs.Seen.{json}
use Rattle.kj_value.specs.Pair.{pair_of}
use Rattle.crd_reading.specs.Walk.{items_refusal, fields_refusal}
use Rattle.crd_reading.specs.declared.places.Place.TheVariants.{VersionObject}
use Rattle.crd_reading.proofs.walk.+try_value.Given as goal

abbrev pub decreases-try_value : goal.decreases-try_value
decreases-try_value l = 2 * depth (json l.v.now)

abbrev pub decreases-try_items : goal.decreases-try_items
decreases-try_items l = 2 * items_depth (items_of l.items.now) + 1

abbrev pub decreases-try_fields : goal.decreases-try_fields
decreases-try_fields l = 2 * members_depth (members_of l.fields.now) + 1

abbrev pub invariant-try_items-loop-i : goal.invariant-try_items-loop-i
invariant-try_items-loop-i l =
    items_refusal VersionObject l.i (items_of (map json (drop l.i l.v-items))) ≡ items_refusal VersionObject 0 (items_of l.items)

abbrev pub invariant-try_fields-loop-f : goal.invariant-try_fields-loop-f
invariant-try_fields-loop-f l = record {
  text : shadow (Utf8 l.last);
  walk : fields_refusal l.place l.last (members_of (map pair_of (drop l.f-index l.f-items))) ≡ fields_refusal l.place [] (members_of l.fields);
}
