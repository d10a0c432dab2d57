use Rattle.far_server.proofs.Serving.{serving}
use Rattle.far_server.proofs.far.ServerFar.new.Goals as goal

pub invariant_of-result : goal.invariant_of-result
invariant_of-result g c = serving _ _ _ _ c.requires.of c.requires.other c.requires.named
