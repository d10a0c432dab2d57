use Rattle.struct_schema.specs.ShapeOf.{shape_of}
use Rattle.hook_versions.specs.inner.Steps.{Fits}
use Rattle.hook_versions.proofs.Fitting.{fit, is_body}
use Rattle.hook_versions.proofs.bodies.fitted.Goals as goal

pub returns-then-fits-clause-fits : goal.returns-then-fits-clause-fits
returns-then-fits-clause-fits c =
    let s = shape_of c.args.s.now in
    is_body c.args.body c.into_object.result (Fits s) c.into_object.ensures (fit s c.args.body c.sound.ensures (c.fits.ensures.0 c.if-fits.true))
