use Rattle.crd_versions.specs.Set.{definition_of}
use Rattle.kubeconv_cmd.proofs.DrillEnding.{drills_example}
use Rattle.kubeconv_cmd.proofs.drill_line.drill_text.Goals as goal

pub returns : goal.returns
returns g c = drills_example c.drill.result c.args.start c.args.count (definition_of c.in_ok-versions.versions) c.in_ok-versions.ensures c.drill.ensures
