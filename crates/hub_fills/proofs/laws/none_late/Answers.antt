use Rattle.hub_fills.specs.inner.LateLaws.{none_late}
use Rattle.hub_fills.proofs.laws.none_late.Goals as goal

pub returns : goal.returns
returns c = none_late
