use Rattle.crd_reading.proofs.Accepting.{accepted, unrefused}
use Rattle.crd_reading.proofs.laws.accepts.Goals as goal

pub returns : goal.returns
returns c = record { is_definition = accepted c.accepts.ensures.is_schema; is_read = unrefused c.accepts.ensures.is_read }
