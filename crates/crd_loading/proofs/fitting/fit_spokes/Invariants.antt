use Rattle.std.proofs.Common.{◌≡◌, ◌++◌, drop, map}
use Rattle.struct_schema.specs.ShapeOf.{shape_of}
use Rattle.crd_reading.specs.Seen.{version_of}
use Rattle.crd_loading.specs.Fits.{spokes_from, fits_blame, fits_of}
use Rattle.crd_loading.specs.inner.AllFitted.{AllFitted}
use Rattle.crd_loading.proofs.fitting.fit_spokes.Given as goal

abbrev pub invariant-loop-i : goal.invariant-loop-i
invariant-loop-i l = record {
  fits : l.fits.items ++ fits_of (shape_of l.schema) l.spokes (spokes_from l.hub l.i (map version_of (drop l.i l.versions))) ≡ fits_of (shape_of l.schema) l.spokes (spokes_from l.hub 0 (map version_of l.versions));
  all : AllFitted l.fits.items;
  blame : fits_blame (shape_of l.schema) l.spokes (spokes_from l.hub l.i (map version_of (drop l.i l.versions))) ≡ fits_blame (shape_of l.schema) l.spokes (spokes_from l.hub 0 (map version_of l.versions));
}
