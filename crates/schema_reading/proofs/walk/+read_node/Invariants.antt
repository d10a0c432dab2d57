use Rattle.std.proofs.Common.{◌≡◌, ◌+◌, ◌*◌, drop, take, map}
use Rattle.kj_value.specs.Json.{depth, members_depth, members_of}
use Rattle.kj_value.specs.Seen.{json}
use Rattle.kj_value.specs.Pair.{pair_of}
use Rattle.schema_reading.specs.Visit.{first, after}
use Rattle.schema_reading.specs.Visits.{each_visits}
use Rattle.schema_reading.proofs.Found.{kept}
use Rattle.schema_reading.proofs.walk.+read_node.Given as goal

abbrev pub decreases-read_node : goal.decreases-read_node
decreases-read_node l = 3 * depth (json l.doc.now)

abbrev pub decreases-read_object : goal.decreases-read_object
decreases-read_object l = 3 * members_depth (members_of l.fields.now) + 2

abbrev pub decreases-read_inner : goal.decreases-read_inner
decreases-read_inner l = 3 * members_depth (members_of l.fields.now) + 1

abbrev pub decreases-read_properties : goal.decreases-read_properties
decreases-read_properties l = 3 * members_depth (members_of l.fields.now) + 1

abbrev pub decreases-read_map : goal.decreases-read_map
decreases-read_map l = 3 * members_depth (members_of l.named.now) + 1

abbrev pub invariant-read_map-loop-f : goal.invariant-read_map-loop-f
invariant-read_map-loop-f l = record {
  read : l.map ≡ kept l.root (map pair_of (take l.f-index l.f-items));
  refusal : first l.nodes (each_visits l.root l.depth (members_of (map pair_of (drop l.f-index l.f-items)))) ≡ first l.initial.nodes (each_visits l.root l.depth (members_of l.named));
  count : after l.nodes (each_visits l.root l.depth (members_of (map pair_of (drop l.f-index l.f-items)))) ≡ after l.initial.nodes (each_visits l.root l.depth (members_of l.named));
}
