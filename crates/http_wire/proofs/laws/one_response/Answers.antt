use Rattle.http_wire.proofs.ReceivingLemmas.{response_one}
use Rattle.http_wire.proofs.laws.one_response.Goals as goal

pub returns : goal.returns
returns c = λ b r q rest tail one other. response_one b r q rest tail one other
