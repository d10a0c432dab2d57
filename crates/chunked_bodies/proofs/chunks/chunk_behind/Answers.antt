use Rattle.std.proofs.Common.{arith}
use Rattle.chunked_bodies.proofs.Bodies.{no_room, wrong_end, wrong_feed, whole_chunk}
use Rattle.chunked_bodies.proofs.chunks.chunk_behind.Goals as goal

pub returns-then-left-lt-LINE_END : goal.returns-then-left-lt-LINE_END
returns-then-left-lt-LINE_END c =
    no_room c.args.bytes.now c.args.len c.args.size c.requires.line.0 c.requires.line.1 c.requires.filled (omega (arith, c.if-left-lt-LINE_END.true))

pub returns-then-size-left : goal.returns-then-size-left
returns-then-size-left c =
    no_room c.args.bytes.now c.args.len c.args.size c.requires.line.0 c.requires.line.1 c.requires.filled (omega (arith, c.if-size-left.true, c.if-left-lt-LINE_END.false))

pub returns-then-bytes-end-ne13 : goal.returns-then-bytes-end-ne13
returns-then-bytes-end-ne13 c =
    wrong_end c.args.bytes.now c.args.len c.args.size c.requires.line.0 c.requires.line.1 c.requires.filled c.if-bytes-end-ne13.true

pub returns-then-bytes-end-ne10 : goal.returns-then-bytes-end-ne10
returns-then-bytes-end-ne10 c =
    wrong_feed c.args.bytes.now c.args.len c.args.size c.requires.line.0 c.requires.line.1 c.requires.filled c.if-bytes-end-ne10.true

pub returns : goal.returns
returns c =
    whole_chunk c.args.bytes.now c.args.len c.args.size c.requires.line.0 c.requires.line.1 c.requires.filled
    (omega (arith, c.requires.within, c.if-left-lt-LINE_END.false, c.if-size-left.false)) c.if-bytes-end-ne13.false c.if-bytes-end-ne10.false
