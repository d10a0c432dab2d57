use Rattle.std.proofs.Common.{Ok, Err}
use Rattle.crd_versions.specs.Set.{definition_of}
use Rattle.command_lines.specs.Given.{task_of}
use Rattle.kubeconv_cmd.specs.Tasks.{KnowsTarget, LacksTarget}
use Rattle.kubeconv_cmd.proofs.TaskLemmas.{asked_ok}
use Rattle.kubeconv_cmd.proofs.tasks.do_task.Goals as goal
