use Rattle.std.proofs.Common.{sym, ◌∙◌}
use Rattle.struct_schema.proofs.places.Places.find_text.Goals as goal

pub returns-in-Some : goal.returns-in-Some
returns-in-Some c = λ i js h. sym (h.texts c.args.name.now) ∙ sym c.in-Some.ensures.value

pub returns-in-None : goal.returns-in-None
returns-in-None c = λ i js h. sym (h.texts c.args.name.now) ∙ sym c.in-None.ensures.value
