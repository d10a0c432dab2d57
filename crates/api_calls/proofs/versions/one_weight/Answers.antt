use Rattle.api_calls.proofs.Stored.{weighs_one, weighs_some, weighs_unstamped}
use Rattle.api_calls.proofs.versions.one_weight.Goals as goal

pub returns-clause-one : goal.returns-clause-one
returns-clause-one g c = λ it h w x. weighs_one (g.V.Versions.meaning it) h w x

pub returns-clause-something : goal.returns-clause-something
returns-clause-something g c = λ it h w. weighs_some (g.V.Versions.meaning it) h w

pub returns-clause-unstamped : goal.returns-clause-unstamped
returns-clause-unstamped g c = λ it h w created deleted generation.
    weighs_unstamped (g.V.Versions.meaning it) h w created deleted generation (g.met.V.Versions.unstamped it)
