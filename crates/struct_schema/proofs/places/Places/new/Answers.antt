use Rattle.struct_schema.proofs.Placed.{none_text, none_whole}
use Rattle.struct_schema.proofs.places.Places.new.Goals as goal

pub returns : goal.returns
returns c = λ i. record {
  texts = none_text c.new-texts.result c.new-texts.ensures.empty;
  wholes = none_whole c.new-wholes.result c.new-wholes.ensures.empty;
}
