use Rattle.far_laws.proofs.legal_lists.Pages.{behind, front_of, rises}
use Rattle.far_laws.proofs.legal_lists.pages_go_on.Goals as goal

pub returns-clause-front : goal.returns-clause-front
returns-clause-front g c = λ it limits log r l. front_of (g.V.Means.meaning it) limits log r l

pub returns-clause-rising : goal.returns-clause-rising
returns-clause-rising g c = λ it limits log r l. rises (g.V.Means.meaning it) limits log r l

pub returns-clause-behind : goal.returns-clause-behind
returns-clause-behind g c = λ it limits log ns after r limit front rest e l is. behind (g.V.Means.meaning it) limits log ns after r limit front rest e l is
