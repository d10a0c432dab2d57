use Rattle.std.proofs.Common.{◌≡◌, map, drop, not, fold, filter, option_map}
use Rattle.struct_schema.specs.ShapeOf.{shape_of}
use Rattle.struct_schema.specs.Fault.{lesser}
use Rattle.kj_value.specs.Texts.{bytes_of}
use Rattle.hub_rules.specs.Refusal.{lost, node, is_there}
use Rattle.hub_rules.proofs.names.lost.Given as goal

abbrev pub invariant-loop-name : goal.invariant-loop-name
invariant-loop-name l =
    fold lesser (option_map (λ t. t.now.bytes) l.first) (filter (λ k. not (is_there (node k (shape_of l.s)))) (map bytes_of (drop l.name-index l.name-items))) ≡ lost (shape_of l.s)
