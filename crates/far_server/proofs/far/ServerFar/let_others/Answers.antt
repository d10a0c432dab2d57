use Rattle.std.proofs.Common.{refl}
use Rattle.far_server.proofs.far.ServerFar.let_others.Goals as goal

pub returns-in-Some : goal.returns-in-Some
returns-in-Some g c = rw (← c.self.view_is) refl
