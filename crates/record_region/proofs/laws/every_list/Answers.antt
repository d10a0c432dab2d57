use Rattle.record_region.proofs.Called.{bytes_last, all_counted}
use Rattle.record_region.proofs.laws.every_list.Goals as goal

pub returns-clause-bytes : goal.returns-clause-bytes
returns-clause-bytes c = bytes_last

pub returns-clause-counted : goal.returns-clause-counted
returns-clause-counted c = all_counted
