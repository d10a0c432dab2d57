use Rattle.api_calls.proofs.Numbers.{one-value}
use Rattle.api_calls.proofs.laws.one_value.Goals as goal

pub returns : goal.returns
returns g c = λ it limits log l i j e f a b is. one-value (g.V.Means.meaning it) log i j e f a b is
