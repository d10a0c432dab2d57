use Rattle.std.proofs.Common.{ℕ, List, subst, arith}
use Rattle.record_dump.specs.inner.Lined.{Lies, IsLong}
use Rattle.record_dump.proofs.Lining.{lies_at, long_at}
use Rattle.record_dump.proofs.Reading.{read_whole, read_long, read_failed}
use Rattle.record_dump.proofs.lines.Lines.read_line.Goals as goal

pub returns-then-len-gt-MOST_BYTES-clause-took : goal.returns-then-len-gt-MOST_BYTES-clause-took
returns-then-len-gt-MOST_BYTES-clause-took g c =
    let found = c.in-Some.ensures in
    read_long (g.S.Source.left c.args.input.now) (g.S.Source.left c.loop-len.input) c.args.self.now c.loop-len.self c.loop-len.invariant.took
    (subst (λ (bs : List ℕ). IsLong bs) c.held.ensures (long_at c.held.result.now c.in-Some.len (omega (arith, found.0)) found.1 c.if-len-gt-MOST_BYTES.true))

pub returns-in-Some-clause-took : goal.returns-in-Some-clause-took
returns-in-Some-clause-took g c =
    let found = c.in-Some.ensures in
    read_whole (g.S.Source.left c.args.input.now) (g.S.Source.left c.loop-len.input) c.args.self.now c.loop-len.self c.in-Some.len c.loop-len.invariant.took
    (subst (λ (bs : List ℕ). Lies bs c.in-Some.len) c.held.ensures (lies_at c.held.result.now c.in-Some.len found.0 found.1 found.2 c.if-len-gt-MOST_BYTES.false))

pub returns-in-Err-clause-took : goal.returns-in-Err-clause-took
returns-in-Err-clause-took g c =
    read_failed (g.S.Source.left c.args.input.now) (g.S.Source.left c.loop-len.input) (g.S.Source.left c.fill.new.input) c.args.self.now c.loop-len.self c.fill.new.self c.fill.ensures.took.0 c.in-Err.unread c.loop-len.invariant.took c.fill.ensures.took.1
