use Rattle.edge_io.proofs.Plain.{stamp_plain}
use Rattle.edge_io.proofs.clock.FixedClockClock.stamp.Goals as goal

pub returns-clause-plain : goal.returns-clause-plain
returns-clause-plain c = stamp_plain _ c.args.self.now.form
