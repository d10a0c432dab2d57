use Rattle.run_laws.proofs.DrillLaws.{drill_wrote, drill_broke, drill_silent, drill_ends}
use Rattle.run_laws.proofs.drill.whatever_fails.Goals as goal

pub returns-clause-drilled : goal.returns-clause-drilled
returns-clause-drilled g c = λ w start count s out e. (drill_wrote w start count s out.0 e).0

pub returns-clause-drill_whole : goal.returns-clause-drill_whole
returns-clause-drill_whole g c = λ w start count s out e. (drill_wrote w start count s out.0 e).1

pub returns-clause-drill_broke : goal.returns-clause-drill_broke
returns-clause-drill_broke g c = λ w start count s out e. (drill_broke w start count s out.0 e).1

pub returns-clause-drill_silent : goal.returns-clause-drill_silent
returns-clause-drill_silent g c = λ w start count s out done fault. drill_silent w start count s out.0 done fault

pub returns-clause-drill_ends : goal.returns-clause-drill_ends
returns-clause-drill_ends g c = λ w start count s out. (drill_ends w start count s out.0, out.1, out.2)
