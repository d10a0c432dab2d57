use Rattle.crd_meaning.specs.Definition.{no_version}
use Rattle.crd_admission.proofs.Schemas.{low_schema}
use Rattle.crd_admission.proofs.depth_laws.default_depth.Goals as goal

pub returns : goal.returns
returns c = λ d v known. low_schema d.view no_version v (tt, tt, tt, tt) known
