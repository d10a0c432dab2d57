use Rattle.chunked_bodies.proofs.Bodies.{no_body, never_body}
use Rattle.chunked_bodies.proofs.chunks.next_of.Goals as goal

pub returns-in-Ok-Partial : goal.returns-in-Ok-Partial
returns-in-Ok-Partial c =
    let e = rw c.in-Ok-Partial.field-0-is at c.in-Ok-Partial.ensures in
    no_body c.args.bytes.now e.partial

pub returns-in-Err : goal.returns-in-Err
returns-in-Err c = never_body c.args.bytes.now c.in-Err.ensures.invalid
