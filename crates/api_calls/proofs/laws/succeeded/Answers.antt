use Rattle.api_calls.proofs.Standing.{succeeded-all}
use Rattle.api_calls.proofs.laws.succeeded.Goals as goal

pub returns : goal.returns
returns g c = λ it limits before after m l is keeps. succeeded-all (g.V.Means.meaning it) limits before after m l is keeps
