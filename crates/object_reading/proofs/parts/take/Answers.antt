use Rattle.object_reading.proofs.Gone.{field-gone}
use Rattle.std.proofs.Common.{◌∙◌, ap}
use Rattle.kj_value.specs.Fields.{field}
use Rattle.object_reading.proofs.parts.take.Goals as goal

pub returns-clause-gone : goal.returns-clause-gone
returns-clause-gone c = ap (field c.args.name.now) c.remove.ensures.fields ∙ field-gone c.args.name.now c.args.fields.now c.len.ensures.sound
