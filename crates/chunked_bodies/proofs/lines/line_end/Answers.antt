use Rattle.std.proofs.Common.{◌≡◌, ◌+◌, length, arith}
use Rattle.chunked_bodies.proofs.Heads.{first_feed, no_feed}
use Rattle.chunked_bodies.proofs.lines.line_end.Goals as goal

pub returns-then-bytes-i-eq10-clause-line : goal.returns-then-bytes-i-eq10-clause-line
returns-then-bytes-i-eq10-clause-line c = λ line more e inside.
    let at : c.loop-i.i ≡ c.args.from + length line =
    first_feed c.args.bytes.now line more c.args.from c.loop-i.i e inside c.loop-i.invariant.later c.if-bytes-i-eq10.true c.loop-i.invariant.none in
    omega arith

pub returns-clause-line : goal.returns-clause-line
returns-clause-line c = λ line more e inside.
    absurd (no_feed c.args.bytes.now line more c.args.from e (λ k later within. c.loop-i.invariant.none k later (omega (arith, c.loop-i-test.false, within))))
