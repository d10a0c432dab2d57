use Rattle.api_calls.proofs.Finds.{stays-all}
use Rattle.api_calls.proofs.laws.value_stays.Goals as goal

pub returns : goal.returns
returns g c = λ it limits before after write k h l is leaves. stays-all (g.V.Means.meaning it) limits before after write k h l is leaves
