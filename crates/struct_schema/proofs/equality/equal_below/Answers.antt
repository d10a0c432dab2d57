use Rattle.std.proofs.Common.{sym, ◌∙◌}
use Rattle.struct_schema.specs.Below.{below}
use Rattle.struct_schema.specs.ShapeOf.{shape_of}
use Rattle.struct_schema.specs.laws.SameLaws.{shape_same-Decides}
use Rattle.struct_schema.proofs.equality.equal_below.Goals as goal

pub returns : goal.returns
returns c =
    let d = shape_same-Decides (below (shape_of c.args.a.now)) (below (shape_of c.args.b.now)) in
    (λ h. d.0 (sym c.same_below.ensures ∙ h), λ e. c.same_below.ensures ∙ d.1 e)
