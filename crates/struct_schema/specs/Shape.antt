-- What a schema asks: its own keywords, and the schemas inside it.
use Rattle.std.specs.Prelude.{ℕ, suc, max, ℤ, List, [], ◌∷◌, Bool, false, Option, Some, None}
use Rattle.kj_value.specs.Json.{Json}
use Rattle.struct_schema.specs.declared.kind.NodeKind.{NodeKind}
use Rattle.struct_schema.specs.declared.kind.IntFormat.{IntFormat}

-- the keywords of one node
pub record Own : Type 0 where
  pub kind : NodeKind
  pub preserve : Bool
  pub nullable : Bool
  pub choices : Option (List Json)
  pub minimum : Option ℤ
  pub maximum : Option ℤ
  pub format : Option IntFormat
  pub min_length : Option ℤ
  pub max_length : Option ℤ
  pub min_items : Option ℤ
  pub max_items : Option ℤ
  pub required : List (List ℕ)
  pub default_value : Option Json

-- a node of a kind with no other keyword
abbrev pub plain : NodeKind → Own
plain d = record {
  kind = d;
  preserve = false;
  nullable = false;
  choices = None;
  minimum = None;
  maximum = None;
  format = None;
  min_length = None;
  max_length = None;
  min_items = None;
  max_items = None;
  required = [];
  default_value = None;
}

-- a node's keywords, the schemas under `properties`, the one under `additionalProperties`, and the one under `items`
mutual
  pub data Shape : Type 0 where
    shape : Own → MaybeShapes → MaybeShape → MaybeShape → Shape

  pub data Shapes : Type 0 where
    no_shapes : Shapes
    shape_at : List ℕ → Shape → Shapes → Shapes

  pub data MaybeShapes : Type 0 where
    no_map : MaybeShapes
    some_map : Shapes → MaybeShapes

  pub data MaybeShape : Type 0 where
    no_shape : MaybeShape
    some_shape : Shape → MaybeShape

abbrev pub shapes_of : List (List ℕ × Shape) → Shapes
shapes_of [] = no_shapes
shapes_of (e ∷ es) = shape_at e.0 e.1 (shapes_of es)

abbrev pub map_of : Option (List (List ℕ × Shape)) → MaybeShapes
map_of None = no_map
map_of (Some es) = some_map (shapes_of es)

abbrev pub maybe_of : Option Shape → MaybeShape
maybe_of None = no_shape
maybe_of (Some s) = some_shape s

abbrev pub own : Shape → Own
own (shape o ps a i) = o

abbrev pub properties : Shape → MaybeShapes
properties (shape o ps a i) = ps

abbrev pub additional : Shape → MaybeShape
additional (shape o ps a i) = a

abbrev pub items_shape : Shape → MaybeShape
items_shape (shape o ps a i) = i

-- how deep schemas nest: 1 for a node with no schema inside
abbrev mutual
  pub shape_depth : Shape → ℕ
  shape_depth (shape o ps a i) = suc (max (map_depth ps) (max (maybe_depth a) (maybe_depth i)))

  pub shapes_depth : Shapes → ℕ
  shapes_depth no_shapes = 0
  shapes_depth (shape_at k s ss) = max (shape_depth s) (shapes_depth ss)

  pub map_depth : MaybeShapes → ℕ
  map_depth no_map = 0
  map_depth (some_map ss) = shapes_depth ss

  pub maybe_depth : MaybeShape → ℕ
  maybe_depth no_shape = 0
  maybe_depth (some_shape s) = shape_depth s
