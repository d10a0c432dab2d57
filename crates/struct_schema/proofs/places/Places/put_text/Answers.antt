use Rattle.std.proofs.Common.{◌∙◌}
use Rattle.struct_schema.proofs.Placed.{text_after}
use Rattle.struct_schema.proofs.places.Places.put_text.Goals as goal

pub returns : goal.returns
returns c = λ js h. record {
  texts = text_after c.args.self.now.texts c.insert.new.self _ c.args.t.now.bytes c.args.i js (c.in_ok-key.ensures.ok ∙ c.as_str.ensures) c.in_ok-insert.ensures.updates h.texts;
  wholes = h.wholes;
}
