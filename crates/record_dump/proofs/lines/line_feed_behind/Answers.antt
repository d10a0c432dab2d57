use Rattle.record_dump.proofs.Lining.{in_line_more, all_in_line}
use Rattle.record_dump.proofs.lines.line_feed_behind.Goals as goal

pub loop-i-preserved : goal.loop-i-preserved
loop-i-preserved c = in_line_more c.args.bytes.now c.loop-i.i c.loop-i-test.true c.loop-i.invariant c.if-bytes-i-eq10.false

pub returns : goal.returns
returns c = all_in_line c.args.bytes.now c.loop-i.i c.loop-i-test.false c.loop-i.invariant
