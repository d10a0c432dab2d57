use Rattle.kj_value.proofs.ReadBack.{one_value}
use Rattle.kj_value.proofs.laws.one_text.Goals as goal

pub returns : goal.returns
returns c = one_value
