use Rattle.std.proofs.Common.{◌≡◌, ◌++◌, drop, map}
use Rattle.kj_value.specs.Json.{items_of}
use Rattle.kj_value.specs.Seen.{json}
use Rattle.crd_reading.specs.Seen.{version_of}
use Rattle.crd_reading.specs.Spelled.{versions_read}
use Rattle.crd_reading.specs.Whole.{HaveOwnDefaults}
use Rattle.crd_reading.specs.First.{schemas_refusal}
use Rattle.crd_reading.proofs.schemas.read_versions.Given as goal

abbrev pub invariant-loop-i : goal.invariant-loop-i
invariant-loop-i l = record {
  read : map version_of l.versions.items ++ versions_read (items_of (map json (drop l.i l.items))) ≡ versions_read (items_of (map json l.items));
  own_defaults : HaveOwnDefaults (map version_of l.versions.items);
  walk : schemas_refusal l.i (items_of (map json (drop l.i l.items))) ≡ schemas_refusal 0 (items_of (map json l.items));
}
