use Rattle.schema_reading.proofs.Accepting.{accepted, unrefused}
use Rattle.schema_reading.proofs.laws.accepts.Goals as goal

pub returns : goal.returns
returns c = record { is_schema = accepted; is_read = unrefused }
