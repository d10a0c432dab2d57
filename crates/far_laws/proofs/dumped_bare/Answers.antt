use Rattle.far_laws.proofs.Bare.{dumped_document}
use Rattle.far_laws.proofs.dumped_bare.Goals as goal

pub returns : goal.returns
returns g = λ x body. dumped_document x body.metadata
