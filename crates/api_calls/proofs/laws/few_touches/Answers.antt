use Rattle.api_calls.proofs.Standing.{few-all}
use Rattle.api_calls.proofs.laws.few_touches.Goals as goal

pub returns : goal.returns
returns g c = λ it limits before after name l. few-all (g.V.Means.meaning it) limits before after name l
