use Rattle.api_calls.proofs.VersionNames.{version_of-ga, version_of-beta, version_of-alpha, version_of-other, number_cmp-decimal}
use Rattle.api_calls.proofs.ranking.version_names.Goals as goal

pub returns-clause-ga : goal.returns-clause-ga
returns-clause-ga c = version_of-ga

pub returns-clause-beta : goal.returns-clause-beta
returns-clause-beta c = version_of-beta

pub returns-clause-alpha : goal.returns-clause-alpha
returns-clause-alpha c = version_of-alpha

pub returns-clause-other : goal.returns-clause-other
returns-clause-other c = version_of-other

pub returns-clause-numbers : goal.returns-clause-numbers
returns-clause-numbers c = number_cmp-decimal
