use Rattle.struct_schema.specs.ShapeOf.{shape_of}
use Rattle.struct_schema.specs.laws.LookupLaws.{one_test}
use Rattle.struct_schema.specs.laws.SameLaws.{shape_same-Decides}
use Rattle.hub_rules.proofs.nodes.alike_nodes.Goals as goal

pub returns : goal.returns
returns c =
    let d = shape_same-Decides (shape_of c.args.a.now) (shape_of c.args.b.now) in
    one_test _ _ (λ h. d.1 (c.equal.ensures.0 h)) (λ h. c.equal.ensures.1 (d.0 h))
