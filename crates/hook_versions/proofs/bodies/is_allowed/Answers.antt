use Rattle.std.proofs.Common.{◌∙◌, sym}
use Rattle.kj_value.specs.Seen.{json}
use Rattle.struct_schema.specs.ShapeOf.{shape_of}
use Rattle.hook_versions.proofs.bodies.is_allowed.Goals as goal

pub returns : goal.returns
returns c =
    let f = c.faults.ensures (shape_of c.args.s.now) (json c.args.v.now) in
    (λ p. f.1 (sym c.is_valid.ensures ∙ p), λ q. c.is_valid.ensures ∙ f.0 q)
