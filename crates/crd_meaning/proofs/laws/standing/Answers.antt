use Rattle.crd_meaning.specs.Meant.{no_settings}
use Rattle.crd_meaning.proofs.Places.{stand}
use Rattle.crd_meaning.proofs.laws.standing.Goals as goal

pub returns : goal.returns
returns c = λ d l. stand c.known.ensures no_settings d l
