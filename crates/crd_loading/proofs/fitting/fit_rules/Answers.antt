use Rattle.struct_schema.specs.ShapeOf.{shape_of}
use Rattle.hub_rules.specs.Rule.{rules_of}
use Rattle.crd_loading.proofs.Fits.{ruled}
use Rattle.crd_loading.proofs.fitting.fit_rules.Goals as goal

pub returns-in-Ok-clause-ruled : goal.returns-in-Ok-clause-ruled
returns-in-Ok-clause-ruled c =
    ruled (shape_of c.args.spoke.now) (shape_of c.args.hub.now) (rules_of c.args.rules.now) c.in-Ok.f c.in-Ok.ensures.ok c.as_slice.ensures.sound c.as_slice.ensures.depth c.cells.ensures.fitted
