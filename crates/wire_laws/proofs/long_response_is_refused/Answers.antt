use Rattle.wire_laws.proofs.Responses.{faulty_it, too_long_it}
use Rattle.wire_laws.proofs.long_response_is_refused.Goals as goal

pub returns-clause-faulty : goal.returns-clause-faulty
returns-clause-faulty c = faulty_it

pub returns-clause-received : goal.returns-clause-received
returns-clause-received c = too_long_it
