-- The fills of an object inside are less deep than those that they stand in.
use Rattle.std.specs.Prelude.{◌≤◌, suc, max, List, [], ◌∷◌}
use Rattle.std.proofs.Common.{arith}
use denote.Param.Weighed.{most}
use Rattle.hub_fills.specs.SeenFills.{within_of}
use Rattle.hub_fills.specs.Depth.{within_depth}
use Rattle.hub_fills.specs.declared.fills.Deeper.{Deeper}
use Rattle.hub_fills.specs.declared.fills.Fills.TheDeep.{deep-Deeper}

pub most-deeper : (ds : List Deeper) → max (most deep-Deeper ds) 0 ≤ suc (within_depth (within_of ds))
most-deeper [] = omega arith
most-deeper (d ∷ ds) = omega (arith, most-deeper ds)
