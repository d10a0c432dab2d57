use Rattle.std.proofs.Common.{◌≡◌, drop, map}
use Rattle.kj_value.specs.Json.{items_of, members_of}
use Rattle.kj_value.specs.Seen.{json}
use Rattle.kj_value.specs.Pair.{pair_of}
use Rattle.kj_value.specs.Same.{members_same}
use Rattle.crd_reading.specs.Spelled.{versions_read}
use Rattle.crd_settings.specs.Flags.{mark_in, spec_fields}
use Rattle.crd_settings.proofs.own.same_fields.Given as goal

abbrev pub invariant-loop-i : goal.invariant-loop-i
invariant-loop-i l =
    members_same (members_of (map pair_of (drop l.i l.given))) (spec_fields (mark_in (versions_read (items_of (map json l.marks)))) (members_of (map pair_of (drop l.i l.own))))
    ≡ members_same (members_of (map pair_of l.given)) (spec_fields (mark_in (versions_read (items_of (map json l.marks)))) (members_of (map pair_of l.own)))
