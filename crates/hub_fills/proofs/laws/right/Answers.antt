use Rattle.hub_fills.specs.laws.RightLaws.{level_right}
use Rattle.hub_fills.proofs.laws.right.Goals as goal

pub returns : goal.returns
returns c = level_right
