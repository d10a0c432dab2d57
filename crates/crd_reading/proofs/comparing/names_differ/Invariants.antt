use Rattle.std.proofs.Common.{◌≡◌, drop, map}
use Rattle.kj_value.specs.Json.{items_of}
use Rattle.kj_value.specs.Seen.{json}
use Rattle.crd_reading.specs.Offered.{names_differ}
use Rattle.crd_reading.specs.Spelled.{versions_read}
use Rattle.crd_reading.proofs.comparing.names_differ.Given as goal

abbrev pub invariant-loop-i : goal.invariant-loop-i
invariant-loop-i l =
    names_differ (versions_read (items_of (map json (drop l.i l.items)))) ≡ names_differ (versions_read (items_of (map json l.items)))
