use Rattle.record_dump.proofs.Wholes.{whole}
use Rattle.record_dump.proofs.laws.one_list.Goals as goal

pub returns : goal.returns
returns c n es w k dumped = whole n es w k dumped
