use Rattle.std.proofs.Common.{◌≡◌, drop}
use Rattle.hub_fills.specs.Depth.{has_within}
use Rattle.hub_fills.specs.SeenFills.{within_of}
use Rattle.hub_fills.proofs.fills.has_deeper.Given as goal

abbrev pub invariant-loop-d : goal.invariant-loop-d
invariant-loop-d l = has_within (within_of (drop l.d-index l.inner)) ≡ has_within (within_of l.inner)
