-- How deep a filled value may be: the defaults of a schema, each with the levels that lead to it.
use Rattle.std.specs.Prelude.{◌≤◌, ℕ, ◌+◌, Option, None, Some}
use Rattle.kj_value.specs.Json.{Json, depth}
use Rattle.struct_schema.specs.Shape.{Shape, shape, Shapes, no_shapes, shape_at, MaybeShapes, no_map, some_map, MaybeShape, no_shape, some_shape}
use Rattle.api_calls.specs.declared.versions.TheConstants.{OBJECT_LEVELS}

-- with so many levels above it, the value is no deeper than an object may be
abbrev pub IsWithin : ℕ → Json → Type 0
IsWithin n j = n + depth j ≤ OBJECT_LEVELS

abbrev pub WithinAt : ℕ → Option Json → Type 0
WithinAt n None = Unit {0}
WithinAt n (Some j) = IsWithin n j

-- each default of a schema with so many levels above it is within them
abbrev mutual
  pub HasLowDefaults : ℕ → Shape → Type 0
  HasLowDefaults n (shape o ps a i) =
      WithinAt n o.default_value × LowInMap (n + 1) ps × LowInMaybe (n + 1) a × LowInMaybe (n + 1) i

  pub LowInMap : ℕ → MaybeShapes → Type 0
  LowInMap n no_map = Unit {0}
  LowInMap n (some_map ss) = LowInShapes n ss

  pub LowInShapes : ℕ → Shapes → Type 0
  LowInShapes n no_shapes = Unit {0}
  LowInShapes n (shape_at l s ss) = HasLowDefaults n s × LowInShapes n ss

  pub LowInMaybe : ℕ → MaybeShape → Type 0
  LowInMaybe n no_shape = Unit {0}
  LowInMaybe n (some_shape s) = HasLowDefaults n s
