use Rattle.body_laws.proofs.Reach.{same_frame}
use Rattle.body_laws.proofs.cell_laws.same_reaches_inside.Goals as goal

pub returns : goal.returns
returns c = same_frame
