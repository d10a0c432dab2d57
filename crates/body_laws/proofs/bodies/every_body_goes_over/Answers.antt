use Rattle.body_laws.proofs.Total.{over_body, sound_body}
use Rattle.body_laws.proofs.bodies.every_body_goes_over.Goals as goal

pub returns : goal.returns
returns c = record {
  body = over_body;
  object = sound_body;
}
