use Rattle.api_calls.proofs.Held.{held-all}
use Rattle.api_calls.proofs.laws.marked_are_held.Goals as goal

pub returns : goal.returns
returns g c = λ it limits log honest l. held-all (g.V.Means.meaning it) limits log honest l
