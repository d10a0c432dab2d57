use Rattle.std.proofs.Common.{map}
use Rattle.std.specs.Vec.Iter.{into_iter_items}
use Rattle.crd_reading.specs.Seen.{version_of}
use Rattle.crd_loading.specs.Fits.{spokes_of}
use Rattle.crd_loading.proofs.Following.{Goes}
use Rattle.crd_loading.proofs.naming.named_spokes.Given as goal

abbrev pub invariant-loop-fitted : goal.invariant-loop-fitted
invariant-loop-fitted l =
    Goes (spokes_of l.hub (map version_of l.versions)) l.fn.fits.items (into_iter_items l.fitted-iterator) l.spokes.items
