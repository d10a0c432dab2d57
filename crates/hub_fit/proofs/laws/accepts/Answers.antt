use Rattle.hub_fit.proofs.Exactly.{fitting, unrefused}
use Rattle.hub_fit.proofs.laws.accepts.Goals as goal

pub returns : goal.returns
returns c = λ s h rs. (fitting s h rs, unrefused s h rs)
