use Rattle.wire_laws.proofs.Responses.{gets_it, receives_it}
use Rattle.wire_laws.proofs.response_is_received.Goals as goal

pub returns-clause-receives : goal.returns-clause-receives
returns-clause-receives c = receives_it

pub returns-clause-received : goal.returns-clause-received
returns-clause-received c = gets_it
