use Rattle.std.proofs.Common.{◌≡◌, ℕ, List, true, map, sym, subst}
use Rattle.crd_reading.specs.Seen.{version_of}
use Rattle.crd_reading.specs.Offered.{has_version}
use Rattle.crd_loading.proofs.Fits.{found, fit_hub}
use Rattle.crd_loading.proofs.fitting.fit_set.Goals as goal

pub unreachable-requires : goal.unreachable-requires
unreachable-requires c =
    found 0 c.as_str.result.now (map version_of c.args.versions.now) (subst (λ (n : List ℕ). has_version n (map version_of c.args.versions.now) ≡ true) (sym c.as_str.ensures) c.requires) (sym c.in-None.ensures)

pub returns-in-None-2-clause-together : goal.returns-in-None-2-clause-together
returns-in-None-2-clause-together c =
    fit_hub c.as_str.result.now c.args.set.now.spokes (map version_of c.args.versions.now) (c.in-Some.hub, version_of c.in-Some.version.now) c.in-Ok.fits.items (sym c.in-Some.ensures) (rw c.in-Ok.is at c.in_ok-blamed-in-Some.ensures.fits) (rw c.in-Ok.is at c.in_ok-blamed-in-Some.ensures.all)
