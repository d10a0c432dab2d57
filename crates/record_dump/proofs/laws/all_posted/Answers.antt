use Rattle.record_dump.proofs.Counting.{posted}
use Rattle.record_dump.proofs.laws.all_posted.Goals as goal

pub returns : goal.returns
returns c n bytes es made there restored = posted n bytes es made there restored
