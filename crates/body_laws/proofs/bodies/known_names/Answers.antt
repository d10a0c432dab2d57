use Rattle.body_laws.proofs.Total.{over_known}
use Rattle.body_laws.proofs.bodies.known_names.Goals as goal

pub returns : goal.returns
returns c = over_known
