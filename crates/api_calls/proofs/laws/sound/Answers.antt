use Rattle.api_calls.proofs.Sound.{sound-all}
use Rattle.api_calls.proofs.laws.sound.Goals as goal

pub returns : goal.returns
returns g c = λ it limits log l. sound-all (g.V.Means.meaning it) limits log l
