use Rattle.run_laws.proofs.MigrateLaws.{migrate_linking, migrate_silent}
use Rattle.run_laws.proofs.migrate.whatever_fails.Goals as goal

pub returns-clause-link_fault : goal.returns-clause-link_fault
returns-clause-link_fault g c = λ w url s out e. migrate_linking w url s out.0 e

pub returns-clause-silent : goal.returns-clause-silent
returns-clause-silent g c = λ w url s out d u f. migrate_silent w url s out.0 d u f
