use Rattle.chunked_bodies.proofs.Unique.{response_one}
use Rattle.chunked_bodies.proofs.laws.one_response.Goals as goal

pub returns : goal.returns
returns c = λ bytes r q rest tail x y. response_one bytes r q rest tail x y
