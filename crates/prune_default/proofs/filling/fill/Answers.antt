use Rattle.kj_value.specs.Seen.{json}
use Rattle.struct_schema.specs.ShapeOf.{shape_of}
use Rattle.prune_default.proofs.Fillings.{one_value}
use Rattle.prune_default.proofs.filling.fill.Goals as goal

pub returns-clause-same : goal.returns-clause-same
returns-clause-same c = λ h.
    one_value (json c.args.v) (shape_of c.args.s.now) (json c.in_ok-filled.filled) (json c.args.v) c.sound-2.ensures c.sound.ensures c.in_ok-filled.ensures.filled h
