use Rattle.std.proofs.Common.{◌≡◌, map, take}
use Rattle.hub_cells.specs.Fit.{Fit}
use Rattle.hub_fills.specs.Fills.{fills_of}
use Rattle.crd_loading.specs.Fits.{levels_in}
use Rattle.crd_loading.proofs.naming.all_fills.Given as goal

abbrev pub invariant-loop-i : goal.invariant-loop-i
invariant-loop-i l =
    l.fills.items ≡ map (λ (f : Fit). fills_of (levels_in l.fits) f.level) (take l.i l.fits)
