use Rattle.rule_reading.proofs.Spelling.{spelled, read_back}
use Rattle.rule_reading.proofs.laws.accepts.Goals as goal

pub returns : goal.returns
returns c = λ j s. (spelled j s, read_back j s)
