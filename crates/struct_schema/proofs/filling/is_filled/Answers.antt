use Rattle.std.proofs.Common.{sym, ◌∙◌}
use Rattle.kj_value.specs.Seen.{json}
use Rattle.struct_schema.specs.ShapeOf.{shape_of}
use Rattle.struct_schema.specs.laws.Own.{stays_filled, filled_stays}
use Rattle.struct_schema.proofs.filling.is_filled.Goals as goal

pub returns : goal.returns
returns c =
    let s = shape_of c.args.s.now in
    let j = json c.args.v.now in
    (λ h. stays_filled s j (sym c.stays.ensures ∙ h), λ h. c.stays.ensures ∙ filled_stays s j c.sound.ensures h)
