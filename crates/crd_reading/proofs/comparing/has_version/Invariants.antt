use Rattle.std.proofs.Common.{◌≡◌, drop, map}
use Rattle.kj_value.specs.Json.{items_of}
use Rattle.kj_value.specs.Seen.{json}
use Rattle.crd_reading.specs.Offered.{has_version}
use Rattle.crd_reading.specs.Spelled.{versions_read}
use Rattle.crd_reading.proofs.comparing.has_version.Given as goal

abbrev pub invariant-loop-v : goal.invariant-loop-v
invariant-loop-v l =
    has_version l.name (versions_read (items_of (map json (drop l.v-index l.items)))) ≡ has_version l.name (versions_read (items_of (map json l.items)))
