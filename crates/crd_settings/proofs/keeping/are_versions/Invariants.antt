use Rattle.std.proofs.Common.{◌≡◌, drop, map}
use Rattle.kj_value.specs.Seen.{json}
use Rattle.crd_reading.specs.Seen.{version_of}
use Rattle.crd_settings.specs.Keeping.{are_versions, names_in}
use Rattle.crd_settings.proofs.keeping.are_versions.Given as goal

abbrev pub invariant-loop-v : goal.invariant-loop-v
invariant-loop-v l =
    are_versions (map version_of l.versions) (names_in (map json (drop l.v-index l.items))) ≡ are_versions (map version_of l.versions) (names_in (map json l.items))
