use Rattle.prune_default.proofs.Fillings.{again_value}
use Rattle.prune_default.proofs.laws.filled_again.Goals as goal

pub returns : goal.returns
returns c = λ s j k h g. again_value j s k h g
