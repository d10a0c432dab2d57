use Rattle.std.proofs.Common.{◌≡◌, ◌++◌, drop, map}
use Rattle.kj_value.specs.Text.{quoted}
use Rattle.kj_value.specs.Texts.{bytes_of}
use Rattle.crd_reading.specs.Seen.{version_of}
use Rattle.crd_reading.specs.View.{VersionView}
use Rattle.crd_settings.proofs.pieces.names.Given as goal

abbrev pub invariant-loop-i : goal.invariant-loop-i
invariant-loop-i l =
    map bytes_of l.names.items ++ map (λ (v : VersionView). quoted v.name) (map version_of (drop l.i l.versions)) ≡ map (λ (v : VersionView). quoted v.name) (map version_of l.versions)
