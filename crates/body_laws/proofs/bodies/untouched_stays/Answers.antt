use Rattle.body_laws.proofs.Stays.{untouched}
use Rattle.body_laws.proofs.bodies.untouched_stays.Goals as goal

pub returns : goal.returns
returns c = λ d l x z f. untouched d l x.fields z x.kept f
