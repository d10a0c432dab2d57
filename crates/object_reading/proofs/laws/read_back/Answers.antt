use Rattle.object_reading.proofs.Accepting.{read_back}
use Rattle.object_reading.proofs.laws.read_back.Goals as goal

pub returns : goal.returns
returns c = read_back
