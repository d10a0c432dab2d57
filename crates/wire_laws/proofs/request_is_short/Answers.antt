use Rattle.wire_laws.proofs.Requests.{short_enough}
use Rattle.wire_laws.proofs.request_is_short.Goals as goal

pub returns : goal.returns
returns c = short_enough
