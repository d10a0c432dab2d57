-- A schema without the default of its root.
use Rattle.std.specs.Prelude.{None}
use Rattle.struct_schema.specs.Shape.{Own, Shape, shape}

abbrev pub without_default : Own → Own
without_default o = record o { default_value = None }

abbrev pub below : Shape → Shape
below (shape o ps a i) = shape (without_default o) ps a i
