use Rattle.hub_cells.specs.laws.OneToOne.{one_to_one}
use Rattle.hub_cells.proofs.laws.one_to_one.Goals as goal

pub returns : goal.returns
returns c = one_to_one
