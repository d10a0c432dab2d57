use Rattle.api_calls.proofs.Generations.{counted-all}
use Rattle.api_calls.proofs.laws.counted.Goals as goal

pub returns : goal.returns
returns g c = λ it limits log honest l. counted-all (g.V.Means.meaning it) limits log honest l
