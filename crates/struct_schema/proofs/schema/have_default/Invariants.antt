use Rattle.std.proofs.Common.{◌≡◌, drop, map}
use Rattle.struct_schema.specs.ShapeOf.{named_shape}
use Rattle.struct_schema.specs.Defaults.{have_default}
use Rattle.struct_schema.proofs.schema.have_default.Given as goal

abbrev pub invariant-loop-f : goal.invariant-loop-f
invariant-loop-f l =
    have_default (map named_shape (drop l.f-index l.fields)) ≡ have_default (map named_shape l.fields)
