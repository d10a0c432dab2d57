-- That each default of a schema is valid at its node and its own filling, and not too deep.
use Rattle.std.specs.Prelude.{◌≡◌, ◌≤◌, true, Option, Some, None}
use Rattle.kj_value.specs.Json.{Json, depth}
use Rattle.struct_schema.specs.Shape.{Shape, shape, Shapes, no_shapes, shape_at, MaybeShapes, no_map, some_map, MaybeShape, no_shape, some_shape}
use Rattle.struct_schema.specs.Valid.{valid}
use Rattle.struct_schema.specs.Stays.{stays}
use Rattle.schema_reading.specs.declared.walk.TheConstants.{MAX_DEFAULT_DEPTH}

abbrev pub IsValidDefault : Shape → Option Json → Type 0
IsValidDefault s None = Unit {0}
IsValidDefault s (Some d) = (valid s d ≡ true) × (stays s d ≡ true) × (depth d ≤ MAX_DEFAULT_DEPTH)

abbrev mutual
  pub HasValidDefaults : Shape → Type 0
  HasValidDefaults (shape o ps a i) =
      IsValidDefault (shape o ps a i) o.default_value × ValidInMap ps × ValidInMaybe a × ValidInMaybe i

  pub ValidInMap : MaybeShapes → Type 0
  ValidInMap no_map = Unit {0}
  ValidInMap (some_map ss) = ValidInShapes ss

  pub ValidInShapes : Shapes → Type 0
  ValidInShapes no_shapes = Unit {0}
  ValidInShapes (shape_at l s ss) = HasValidDefaults s × ValidInShapes ss

  pub ValidInMaybe : MaybeShape → Type 0
  ValidInMaybe no_shape = Unit {0}
  ValidInMaybe (some_shape s) = HasValidDefaults s
