use Rattle.std.proofs.Common.{sym, ◌∙◌}
use Rattle.struct_schema.specs.ShapeOf.{shape_of}
use Rattle.struct_schema.specs.laws.SameLaws.{shape_same-Decides}
use Rattle.struct_schema.proofs.equality.equal.Goals as goal

pub returns : goal.returns
returns c =
    let d = shape_same-Decides (shape_of c.args.a.now) (shape_of c.args.b.now) in
    (λ h. d.0 (sym c.same_schema.ensures ∙ h), λ e. c.same_schema.ensures ∙ d.1 e)
