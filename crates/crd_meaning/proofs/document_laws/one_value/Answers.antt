use Rattle.crd_meaning.proofs.One.{one, excludes}
use Rattle.crd_meaning.proofs.document_laws.one_value.Goals as goal

pub returns-clause-one : goal.returns-clause-one
returns-clause-one c = λ d l. one c.known.ensures d l

pub returns-clause-excludes : goal.returns-clause-excludes
returns-clause-excludes c = λ d l. excludes c.known.ensures d l
