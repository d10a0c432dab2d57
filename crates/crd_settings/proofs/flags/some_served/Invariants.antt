use Rattle.std.proofs.Common.{◌≡◌, drop, map}
use Rattle.kj_value.specs.Json.{items_of}
use Rattle.kj_value.specs.Seen.{json}
use Rattle.crd_reading.specs.Offered.{some_served}
use Rattle.crd_reading.specs.Spelled.{versions_read}
use Rattle.crd_settings.proofs.flags.some_served.Given as goal

abbrev pub invariant-loop-v : goal.invariant-loop-v
invariant-loop-v l =
    some_served (versions_read (items_of (map json (drop l.v-index l.items)))) ≡ some_served (versions_read (items_of (map json l.items)))
