use Rattle.prune_default.proofs.Fillings.{one_value}
use Rattle.prune_default.proofs.laws.one_filling.Goals as goal

pub returns : goal.returns
returns c = λ s j k l p q g h. one_value j s k l p q g h
