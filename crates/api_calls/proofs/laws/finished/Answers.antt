use Rattle.api_calls.specs.State.{state}
use Rattle.api_calls.proofs.Sound.{sound-all, finished}
use Rattle.api_calls.proofs.laws.finished.Goals as goal

pub returns : goal.returns
returns g c = λ it limits log m l is done. finished m (state (g.V.Means.meaning it) log) (sound-all (g.V.Means.meaning it) limits log l) is done
