use Rattle.prune_default.proofs.Existing.{filling}
use Rattle.prune_default.proofs.laws.some_filling.Goals as goal

pub returns : goal.returns
returns c = filling
