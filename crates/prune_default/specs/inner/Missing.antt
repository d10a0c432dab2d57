-- For private clauses: the default of a name that isn't there.
use Rattle.std.specs.Prelude.{ℕ, List, Option, Some, None, cond}
use Rattle.kj_value.specs.Json.{Json}
use Rattle.struct_schema.specs.Shape.{own, Shapes, no_shapes, shape_at, MaybeShape, no_shape, some_shape}
use Rattle.struct_schema.specs.Names.{is_name}

-- the value that is there, or else another
abbrev pub or_value : Option Json → Option Json → Option Json
or_value None w = w
or_value (Some v) w = Some v

abbrev pub default_of : MaybeShape → Option Json
default_of no_shape = None
default_of (some_shape s) = (own s).default_value

-- the first default that stands at the name
abbrev pub first_default : List ℕ → Shapes → Option Json
first_default n no_shapes = None
first_default n (shape_at l s ss) = or_value (cond (is_name n l) (own s).default_value None) (first_default n ss)
