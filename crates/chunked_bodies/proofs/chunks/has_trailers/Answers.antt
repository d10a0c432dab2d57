use Rattle.chunked_bodies.proofs.chunks.has_trailers.Goals as goal

pub returns-in-Err : goal.returns-in-Err
returns-in-Err c = c.in-Err.ensures.found
