use Rattle.std.proofs.Common.{refl}
use Rattle.crd_meaning.specs.Refusal.{annotation_prefix}
use Rattle.crd_admission.proofs.faults.annotation_prefix.Goals as goal

pub returns : goal.returns
unfolding annotation_prefix
returns c = refl
