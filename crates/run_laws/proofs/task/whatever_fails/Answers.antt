use Rattle.run_laws.proofs.TaskLaws.{task_wrote, task_broke, task_silent, task_bad_input}
use Rattle.run_laws.proofs.task.whatever_fails.Goals as goal

pub returns-clause-wrote : goal.returns-clause-wrote
returns-clause-wrote g c = λ w crd rules t s out e. let all = task_wrote w crd rules t s out.0 e in (all.0, all.1, all.2)

pub returns-clause-whole : goal.returns-clause-whole
returns-clause-whole g c = λ w crd rules t s out e. let all = task_wrote w crd rules t s out.0 e in (all.3, all.4)

pub returns-clause-broke : goal.returns-clause-broke
returns-clause-broke g c = λ w crd rules t s out e. let all = task_broke w crd rules t s out.0 e in (all.1, all.2, all.3)

pub returns-clause-silent : goal.returns-clause-silent
returns-clause-silent g c = λ w crd rules t s out done fault. task_silent w crd rules t s out.0 done fault

pub returns-clause-bad_input : goal.returns-clause-bad_input
returns-clause-bad_input g c = λ w crd rules t s out e. task_bad_input w crd rules t s out.0 e
