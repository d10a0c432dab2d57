use Rattle.std.proofs.Common.{subst}
use Rattle.chunked_bodies.specs.Response.{HasNoChunked}
use Rattle.chunked_bodies.proofs.Handing.{hands_other}
use Rattle.chunked_bodies.proofs.response.with_length.Goals as goal

pub returns-in-None : goal.returns-in-None
returns-in-None c =
    let e = rw c.in-None.is at c.in_ok-joined.ensures in
    hands_other c.args.response.items (subst HasNoChunked c.deref.ensures.value e)
