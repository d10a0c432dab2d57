use Rattle.crd_meaning.proofs.Left.{hub_over}
use Rattle.crd_meaning.proofs.laws.going_over.Goals as goal

pub returns : goal.returns
returns c = λ d l. hub_over c.given.ensures d l
