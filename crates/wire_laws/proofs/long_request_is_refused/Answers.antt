use Rattle.wire_laws.proofs.Requests.{refuses_it}
use Rattle.wire_laws.proofs.long_request_is_refused.Goals as goal

pub returns : goal.returns
returns c = refuses_it
