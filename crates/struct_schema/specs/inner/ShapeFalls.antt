-- What a schema holds is less deep than it.
use Rattle.std.specs.Prelude.{◌≤◌, ℕ, max, List, [], ◌∷◌, map, Option, Some, None}
use Rattle.std.proofs.Common.{arith}
use denote.Param.Weighed.{most}
use Rattle.struct_schema.specs.Shape.{Shape, shape_depth, shapes_depth, shapes_of}
use Rattle.struct_schema.specs.ShapeOf.{shape_of, named_shape}
use Rattle.struct_schema.specs.declared.schema.Schema.{Schema}
use Rattle.struct_schema.specs.declared.schema.SchemaField.{SchemaField}
use Rattle.struct_schema.specs.declared.schema.SchemaBox.TheDeep.{deep-Schema, deep-SchemaField}

by_parts : (s : Schema) (p : Option (List (List ℕ × Shape))) (a i : Option Shape) → deep-Schema (record s { properties = p; additional = a; items = i }) ≤ shape_depth (shape_of (record s { properties = p; additional = a; items = i }))
by_parts s None None None = omega arith
by_parts s None None (Some i) = omega arith
by_parts s None (Some a) None = omega arith
by_parts s None (Some a) (Some i) = omega arith
by_parts s (Some p) None None = omega arith
by_parts s (Some p) None (Some i) = omega arith
by_parts s (Some p) (Some a) None = omega arith
by_parts s (Some p) (Some a) (Some i) = omega arith

pub deep-shape : (s : Schema) → deep-Schema s ≤ shape_depth (shape_of s)
deep-shape s = by_parts s s.properties s.additional s.items

pub deep-box : (s : Schema) → max (deep-Schema s) 0 ≤ shape_depth (shape_of s)
deep-box s = omega (arith, deep-shape s)

pub most-schemas : (fs : List SchemaField) → max (most deep-SchemaField fs) 0 ≤ shapes_depth (shapes_of (map named_shape fs))
most-schemas [] = omega arith
most-schemas (f ∷ fs) = omega (arith, deep-shape f.schema, most-schemas fs)
