use Rattle.run_laws.proofs.LoadLaws.{load_linking, load_done, load_refused, load_silent}
use Rattle.run_laws.proofs.load.whatever_fails.Goals as goal

pub returns-clause-link_fault : goal.returns-clause-link_fault
returns-clause-link_fault g c = λ w url s out e. load_linking w url s out.0 e

pub returns-clause-whole : goal.returns-clause-whole
returns-clause-whole g c = λ w url s out e. load_done c.all_posted.ensures w url s out.0 e

pub returns-clause-refused : goal.returns-clause-refused
returns-clause-refused g c = λ w url s out e. load_refused w url s out.0 e

pub returns-clause-silent : goal.returns-clause-silent
returns-clause-silent g c = λ w url s out d f. load_silent w url s out.0 d f
