-- For measures: what stands in a map of schemas is less deep than it.
use Rattle.std.proofs.Common.{◌≡◌, ℕ, zero, suc, ◌<◌, ◌≤◌, List, [], ◌∷◌, length, get_or, map, arith}
use Rattle.struct_schema.specs.Shape.{Shape, shape_depth, shapes_depth, shapes_of}
use Rattle.struct_schema.specs.ShapeOf.{shape_of, named_shape}
use Rattle.struct_schema.specs.declared.schema.SchemaField.{SchemaField}

depth-get_or : (fs : List SchemaField) (i : ℕ) (d : SchemaField) → i < length fs → shape_depth (shape_of (get_or fs i d).schema) ≤ shapes_depth (shapes_of (map named_shape fs))
depth-get_or [] i d p = absurd (omega arith)
depth-get_or (f ∷ fs) zero d p = omega arith
depth-get_or (f ∷ fs) (suc i) d p = omega (arith, depth-get_or fs i d (omega arith))

-- a schema read at a place, as a loop knows it
pub schema_depth : (fs : List SchemaField) (es : List (List ℕ × Shape)) (i : ℕ) (f : SchemaField) → map named_shape fs ≡ es → i < length fs → f ≡ get_or fs i f → shape_depth (shape_of f.schema) ≤ shapes_depth (shapes_of es)
schema_depth fs es i f e p q =
    let bound : shape_depth (shape_of (get_or fs i f).schema) ≤ shapes_depth (shapes_of (map named_shape fs)) = depth-get_or fs i f p in
    rw (← e, q) bound
