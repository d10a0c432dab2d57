-- What stands at a name: the value in an object, and the schema that a node has for it.
use Rattle.std.specs.Prelude.{ℕ, List, Bool, true, Option, cond}
use Rattle.std.specs.Ordering.{nat_cmp, is_eq}
use Rattle.std.specs.Cmp.Lexicographic.{slice_cmp}
use Rattle.kj_value.specs.Json.{Json, Members}
use Rattle.kj_value.specs.Fields.{field}
use Rattle.kj_value.specs.Kinds.{pairs_of}
use Rattle.struct_schema.specs.Shape.{Shape, shape, Shapes, no_shapes, shape_at, MaybeShapes, no_map, some_map, MaybeShape, no_shape, some_shape}

-- two names are one
abbrev pub is_name : List ℕ → List ℕ → Bool
is_name k l = is_eq (slice_cmp nat_cmp k l)

abbrev pub value_at : List ℕ → Members → Option Json
value_at k ms = field k (pairs_of ms)

abbrev pub shape_named : List ℕ → Shapes → MaybeShape
shape_named k no_shapes = no_shape
shape_named k (shape_at l s ss) = cond (is_name k l) (some_shape s) (shape_named k ss)

-- the first that is there
abbrev pub or_shape : MaybeShape → MaybeShape → MaybeShape
or_shape no_shape m = m
or_shape (some_shape s) m = some_shape s

abbrev pub property : List ℕ → MaybeShapes → MaybeShape
property k no_map = no_shape
property k (some_map ss) = shape_named k ss

-- the schema for a name: the property's, or else that of all other names
abbrev pub shape_for : Shape → List ℕ → MaybeShape
shape_for (shape o ps a i) k = or_shape (property k ps) a

-- every schema that is there passes
abbrev pub passes : MaybeShape → (Shape → Bool) → Bool
passes no_shape p = true
passes (some_shape s) p = p s
