use Rattle.crd_meaning.specs.Meant.{no_settings}
use Rattle.crd_meaning.proofs.Places.{unstamped}
use Rattle.crd_meaning.proofs.laws.unstamped.Goals as goal

pub returns : goal.returns
returns c = λ d. unstamped no_settings d
