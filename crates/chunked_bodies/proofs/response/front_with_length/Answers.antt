use Rattle.std.proofs.Common.{subst}
use Rattle.chunked_bodies.specs.Response.{HandsOnFront}
use Rattle.chunked_bodies.proofs.Handing.{leaves_front}
use Rattle.chunked_bodies.proofs.response.front_with_length.Goals as goal

pub returns-in-None : goal.returns-in-None
returns-in-None c = leaves_front c.args.front.items _ c.deref.ensures.value (rw c.in-None.is at c.chunked_head.ensures)
