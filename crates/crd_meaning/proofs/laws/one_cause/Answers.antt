use Rattle.crd_meaning.proofs.Causes.{one_reason}
use Rattle.crd_meaning.proofs.laws.one_cause.Goals as goal

pub returns : goal.returns
returns c = λ d l r. one_reason c.known.ensures d l r
