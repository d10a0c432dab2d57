use Rattle.kj_value.specs.Seen.{json}
use Rattle.struct_schema.specs.ShapeOf.{shape_of}
use Rattle.struct_schema.specs.laws.Own.{stays_filled, filled_stays}
use Rattle.struct_schema.specs.laws.LookupLaws.{one_test}
use Rattle.schema_reading.proofs.defaults.is_own_filling.Goals as goal

pub returns : goal.returns
returns c =
    let s = shape_of c.args.s.now in
    let j = json c.args.v.now in
    one_test _ _ (λ h. filled_stays s j c.sound.ensures (c.is_filled.ensures.0 h)) (λ h. c.is_filled.ensures.1 (stays_filled s j h))
