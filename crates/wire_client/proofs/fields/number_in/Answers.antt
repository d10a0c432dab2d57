use Rattle.std.proofs.Common.{codes, sym}
use Rattle.wire_client.specs.Forms.{meta_field}
use Rattle.wire_client.proofs.NumberTexts.{number_told}
use Rattle.wire_client.proofs.fields.number_in.Goals as goal

pub returns-in-Some : goal.returns-in-Some
returns-in-Some c = number_told (meta_field (codes "resourceVersion") c.args.fields.now) c.in-Some.text.now c.number_of.result (sym c.in-Some.ensures) c.number_of.ensures
