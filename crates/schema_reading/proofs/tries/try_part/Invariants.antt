use Rattle.std.proofs.Common.{◌≡◌, drop, map}
use Rattle.kj_value.specs.Json.{members_of}
use Rattle.kj_value.specs.Pair.{pair_of}
use Rattle.schema_reading.specs.Visits.{unallowed}
use Rattle.schema_reading.proofs.tries.try_part.Given as goal

abbrev pub invariant-loop-f : goal.invariant-loop-f
invariant-loop-f l =
    unallowed l.part l.scope (members_of (map pair_of (drop l.f-index l.f-items))) ≡ unallowed l.part l.scope (members_of l.fields)
