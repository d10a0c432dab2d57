use Rattle.api_calls.proofs.Snaps.{rebuilt-all}
use Rattle.api_calls.proofs.laws.rebuilt.Goals as goal

pub returns : goal.returns
returns g c = λ it limits log r e l one lt. rebuilt-all (g.V.Means.meaning it) limits log r e l one lt
