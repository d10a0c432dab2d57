-- For private clauses: names of `properties` that differ.
use Rattle.std.specs.Prelude.{◌≡◌}
use Rattle.struct_schema.specs.Shape.{Shapes, no_shapes, shape_at, MaybeShapes, no_map, some_map, no_shape}
use Rattle.struct_schema.specs.Names.{shape_named}

-- no name has two schemas
abbrev pub NamesDiffer : Shapes → Type 0
NamesDiffer no_shapes = Unit {0}
NamesDiffer (shape_at k t ss) = (shape_named k ss ≡ no_shape) × NamesDiffer ss

abbrev pub AllDiffer : MaybeShapes → Type 0
AllDiffer no_map = Unit {0}
AllDiffer (some_map ss) = NamesDiffer ss
