use Rattle.std.proofs.Common.{◌≡◌, drop, map}
use Rattle.crd_reading.specs.Seen.{version_of}
use Rattle.crd_reading.specs.Offered.{has_version}
use Rattle.crd_loading.proofs.known.has_version.Given as goal

abbrev pub invariant-loop-v : goal.invariant-loop-v
invariant-loop-v l =
    has_version l.name (map version_of (drop l.v-index l.versions)) ≡ has_version l.name (map version_of l.versions)
