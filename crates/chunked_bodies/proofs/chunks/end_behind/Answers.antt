use Rattle.chunked_bodies.proofs.Bodies.{end_found, end_lost}
use Rattle.chunked_bodies.proofs.chunks.end_behind.Goals as goal

pub returns-then-has_trailers : goal.returns-then-has_trailers
returns-then-has_trailers c = end_found c.args.bytes.now c.args.len c.requires.line.0 c.requires.line.1 c.if-has_trailers.ensures

pub returns-else-has_trailers : goal.returns-else-has_trailers
returns-else-has_trailers c = end_lost c.args.bytes.now c.args.len c.requires.line.0 c.requires.line.1 c.if-has_trailers.ensures
