use Rattle.run_laws.proofs.DumpLaws.{dump_linking, dump_done}
use Rattle.run_laws.proofs.dump.whatever_fails.Goals as goal

pub returns-clause-link_fault : goal.returns-clause-link_fault
returns-clause-link_fault g c = λ w url s out e. dump_linking w url s out.0 e

pub returns-clause-whole : goal.returns-clause-whole
returns-clause-whole g c = λ w url s out e. dump_done c.one_list.ensures w url s out.0 e
