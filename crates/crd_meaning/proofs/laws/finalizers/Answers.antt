use Rattle.crd_meaning.specs.Meant.{no_settings}
use Rattle.crd_meaning.proofs.Places.{finalizers}
use Rattle.crd_meaning.proofs.laws.finalizers.Goals as goal

pub returns : goal.returns
returns c = λ d. finalizers no_settings d
