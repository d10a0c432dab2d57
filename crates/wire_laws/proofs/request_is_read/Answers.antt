use Rattle.wire_laws.proofs.Requests.{alone, reads_it, spells_it, takes_it}
use Rattle.wire_laws.proofs.request_is_read.Goals as goal

pub returns-clause-reads : goal.returns-clause-reads
returns-clause-reads c = reads_it

pub returns-clause-spelled : goal.returns-clause-spelled
returns-clause-spelled c = spells_it

pub returns-clause-alone : goal.returns-clause-alone
returns-clause-alone c = alone

pub returns-clause-asked : goal.returns-clause-asked
returns-clause-asked c = takes_it
