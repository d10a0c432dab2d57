use Rattle.crd_admission.proofs.Depths.{filled_within}
use Rattle.crd_admission.proofs.depth_laws.filled_depth.Goals as goal

pub returns : goal.returns
returns c = filled_within
