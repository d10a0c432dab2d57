use Rattle.kj_value.specs.Seen.{json}
use Rattle.struct_schema.specs.ShapeOf.{shape_of}
use Rattle.schema_reading.proofs.OwnDefaults.{in_schema}
use Rattle.schema_reading.proofs.walk.read_schema.Goals as goal

pub returns-in-Ok-clause-own_defaults : goal.returns-in-Ok-clause-own_defaults
returns-in-Ok-clause-own_defaults c =
    in_schema (json c.args.doc.now) (shape_of c.in-Ok.schema) c.in-Ok.ensures.walk.0 c.in-Ok.ensures.read
