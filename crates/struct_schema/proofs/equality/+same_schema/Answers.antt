use Rattle.struct_schema.specs.laws.SameLaws.{maps_differ}
use Rattle.struct_schema.proofs.equality.+same_schema.Goals as goal

pub same_fields-returns-then-xs-ys : goal.same_fields-returns-then-xs-ys
same_fields-returns-then-xs-ys t c = maps_differ _ _ c.if-xs-ys.true
