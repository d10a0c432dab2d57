use Rattle.hub_cells.proofs.Crosses.{can_cross}
use Rattle.hub_cells.proofs.laws.allowed_crosses.Goals as goal

pub returns : goal.returns
returns c = can_cross
