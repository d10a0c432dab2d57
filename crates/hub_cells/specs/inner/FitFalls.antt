-- How deep levels nest, and that an inner object's level is less deep than the one it stands in.
use Rattle.std.specs.Prelude.{◌≤◌, suc, max, List, [], ◌∷◌}
use Rattle.std.proofs.Common.{arith}
use denote.Param.Weighed.{most}
use Rattle.hub_cells.specs.SeenFit.{inners_of}
use Rattle.hub_cells.specs.LevelDepth.{inners_depth}
use Rattle.hub_cells.specs.declared.fitted.Inner.{Inner}
use Rattle.hub_cells.specs.declared.fitted.Fitted.TheDeep.{deep-Inner}

pub most-inner : (is : List Inner) → max (most deep-Inner is) 0 ≤ suc (inners_depth (inners_of is))
most-inner [] = omega arith
most-inner (i ∷ is) = omega (arith, most-inner is)
