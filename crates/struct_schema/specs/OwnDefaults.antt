-- That each default of a schema is its own filling (Kubernetes, "Defaulting": a default is pruned, and valid, where it is set).
use Rattle.std.specs.Prelude.{Option, Some, None}
use Rattle.kj_value.specs.Json.{Json}
use Rattle.struct_schema.specs.Shape.{Shape, shape, Shapes, no_shapes, shape_at, MaybeShapes, no_map, some_map, MaybeShape, no_shape, some_shape}
use Rattle.struct_schema.specs.Filled.{Filled}

abbrev pub IsOwnFilling : Shape → Option Json → Type 0
IsOwnFilling s None = Unit {0}
IsOwnFilling s (Some d) = Filled s d d

abbrev mutual
  pub HasOwnDefaults : Shape → Type 0
  HasOwnDefaults (shape o ps a i) =
      IsOwnFilling (shape o ps a i) o.default_value × InMap ps × InMaybe a × InMaybe i

  pub InMap : MaybeShapes → Type 0
  InMap no_map = Unit {0}
  InMap (some_map ss) = InShapes ss

  pub InShapes : Shapes → Type 0
  InShapes no_shapes = Unit {0}
  InShapes (shape_at l s ss) = HasOwnDefaults s × InShapes ss

  pub InMaybe : MaybeShape → Type 0
  InMaybe no_shape = Unit {0}
  InMaybe (some_shape s) = HasOwnDefaults s
