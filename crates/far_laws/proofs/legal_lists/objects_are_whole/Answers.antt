use Rattle.far_laws.proofs.legal_lists.Whole.{whole-all, whole-at}
use Rattle.far_laws.proofs.legal_lists.objects_are_whole.Goals as goal

pub returns-clause-now : goal.returns-clause-now
returns-clause-now g c = λ it limits log honest l. whole-all (g.V.Means.meaning it) honest limits log l

pub returns-clause-at : goal.returns-clause-at
returns-clause-at g c = λ it limits log r honest l. whole-at (g.V.Means.meaning it) honest limits log r l
