use Rattle.chunked_bodies.proofs.Handing.{counts_front}
use Rattle.chunked_bodies.proofs.response.counted.Goals as goal

pub returns : goal.returns
returns c = counts_front c.args.front.now _ c.args.head c.requires.0 c.requires.1 (c.in_ok-out.ensures c.requires.0 c.requires.1)
