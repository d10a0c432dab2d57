use Rattle.std.proofs.Common.{◌≡◌, drop, map}
use Rattle.crd_reading.specs.Offered.{has_version}
use Rattle.crd_reading.specs.Seen.{version_of}
use Rattle.crd_settings.proofs.keeping.has_version.Given as goal

abbrev pub invariant-loop-version : goal.invariant-loop-version
invariant-loop-version l = has_version l.name (map version_of (drop l.version-index l.versions)) ≡ has_version l.name (map version_of l.versions)
