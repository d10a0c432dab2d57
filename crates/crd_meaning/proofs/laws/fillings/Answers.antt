use Rattle.crd_meaning.proofs.Filled.{taken_filled, version_sound}
use Rattle.crd_meaning.proofs.laws.fillings.Goals as goal

pub returns : goal.returns
returns c = λ d l. taken_filled c.known.ensures d (version_sound d l)
