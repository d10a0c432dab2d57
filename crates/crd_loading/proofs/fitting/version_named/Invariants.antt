use Rattle.std.proofs.Common.{◌≡◌, drop, map}
use Rattle.crd_reading.specs.Seen.{version_of}
use Rattle.crd_loading.specs.Fits.{version_from}
use Rattle.crd_loading.proofs.fitting.version_named.Given as goal

abbrev pub invariant-loop-i : goal.invariant-loop-i
invariant-loop-i l =
    version_from l.i l.name (map version_of (drop l.i l.versions)) ≡ version_from 0 l.name (map version_of l.versions)
