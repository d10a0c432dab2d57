use Rattle.std.proofs.Common.{◌≡◌, drop, map}
use Rattle.kj_value.specs.Json.{items_of}
use Rattle.kj_value.specs.Seen.{json}
use Rattle.kj_value.specs.Same.{items_same}
use Rattle.crd_reading.specs.Spelled.{versions_read}
use Rattle.crd_settings.specs.Flags.{mark_in, versions_with}
use Rattle.crd_settings.proofs.own.same_versions.Given as goal

abbrev pub invariant-loop-v : goal.invariant-loop-v
invariant-loop-v l =
    items_same (items_of (map json (drop l.v l.given))) (versions_with (mark_in (versions_read (items_of (map json l.marks)))) l.v (items_of (map json (drop l.v l.own))))
    ≡ items_same (items_of (map json l.given)) (versions_with (mark_in (versions_read (items_of (map json l.marks)))) 0 (items_of (map json l.own)))
