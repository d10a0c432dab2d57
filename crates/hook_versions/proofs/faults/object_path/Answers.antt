use Rattle.std.proofs.Common.{refl}
use Rattle.crd_meaning.specs.Refusal.{object_path}
use Rattle.hook_versions.proofs.faults.object_path.Goals as goal

pub returns : goal.returns
unfolding object_path
returns c = refl
