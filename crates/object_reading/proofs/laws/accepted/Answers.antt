use Rattle.object_reading.proofs.Accepting.{accepted}
use Rattle.object_reading.proofs.laws.accepted.Goals as goal

pub returns : goal.returns
returns c = accepted
