use Rattle.std.proofs.Common.{◌≡◌, ◌≤◌, ◌+◌, drop, map}
use Rattle.kj_value.specs.Json.{items_of}
use Rattle.kj_value.specs.Seen.{json}
use Rattle.crd_reading.specs.Offered.{storages}
use Rattle.crd_reading.specs.Spelled.{versions_read}
use Rattle.crd_settings.proofs.flags.storages.Given as goal

abbrev pub invariant-loop-v : goal.invariant-loop-v
invariant-loop-v l = record {
  within : l.count ≤ l.v-index;
  counted : l.count + storages (versions_read (items_of (map json (drop l.v-index l.items)))) ≡ storages (versions_read (items_of (map json l.items)));
}
