use Rattle.far_laws.proofs.legal_lists.Limits.{within-all}
use Rattle.far_laws.proofs.legal_lists.within_limits.Goals as goal

pub returns-clause-objects : goal.returns-clause-objects
returns-clause-objects g c = λ it limits log l. (within-all (g.V.Means.meaning it) limits log l).objects

pub returns-clause-chunks : goal.returns-clause-chunks
returns-clause-chunks g c = λ it limits log l. (within-all (g.V.Means.meaning it) limits log l).chunks

pub returns-clause-migrations : goal.returns-clause-migrations
returns-clause-migrations g c = λ it limits log l. (within-all (g.V.Means.meaning it) limits log l).migrations
