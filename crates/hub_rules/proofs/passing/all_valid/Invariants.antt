use Rattle.std.proofs.Common.{◌≡◌, map, drop}
use Rattle.hub_cells.specs.Pairs.{values_of}
use Rattle.struct_schema.specs.ShapeOf.{shape_of}
use Rattle.hub_rules.specs.Refusal.{all_valid}
use Rattle.hub_rules.proofs.passing.all_valid.Given as goal

abbrev pub invariant-loop-p : goal.invariant-loop-p
invariant-loop-p l =
    all_valid (shape_of l.s) (shape_of l.h) (map values_of l.pairs) ≡ all_valid (shape_of l.s) (shape_of l.h) (map values_of (drop l.p-index l.pairs))
