use Rattle.api_calls.specs.State.{opening}
use Rattle.api_calls.proofs.Snaps.{stays-from}
use Rattle.api_calls.proofs.laws.past_stays.Goals as goal

pub returns : goal.returns
returns g c = λ it log more r lt. stays-from 2 r (opening (g.V.Means.meaning it)) log more lt
