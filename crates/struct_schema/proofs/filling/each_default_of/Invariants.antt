use Rattle.std.proofs.Common.{◌≡◌, drop, map}
use Rattle.kj_value.specs.Json.{members_of}
use Rattle.struct_schema.specs.Shape.{shapes_of}
use Rattle.struct_schema.specs.ShapeOf.{named_shape}
use Rattle.struct_schema.specs.Stays.{each_default}
use Rattle.struct_schema.proofs.filling.each_default_of.Given as goal

abbrev pub invariant-loop-p : goal.invariant-loop-p
invariant-loop-p l =
    each_default (shapes_of (map named_shape (drop l.p-index l.properties))) (members_of l.fields) ≡ each_default (shapes_of (map named_shape l.properties)) (members_of l.fields)
