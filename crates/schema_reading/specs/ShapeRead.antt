-- The shape that a schema document spells.
use Rattle.std.specs.Prelude.{ℕ, List, Bool, false, Option, Some, None, cond}
use Rattle.kj_value.specs.Json.{Json, null, boolean, whole, text, list, object, Members, no_members, member}
use Rattle.struct_schema.specs.Shape.{plain, Shape, shape, Shapes, no_shapes, shape_at, MaybeShapes, no_map, some_map, MaybeShape, no_shape, some_shape}
use Rattle.struct_schema.specs.Names.{is_name, value_at}
use Rattle.struct_schema.specs.declared.kind.NodeKind.TheVariants.{Any}
use Rattle.schema_reading.specs.Words.{word, passed_type}
use Rattle.schema_reading.specs.OwnRead.{own_read}
use Rattle.schema_reading.specs.declared.words.Keyword.{Keyword}
use Rattle.schema_reading.specs.declared.words.Keyword.TheVariants.{Additional, Default, Items as ItemsWord, Properties}

abbrev pub with_default : Option Json → Shape → Shape
with_default d (shape o ps a i) = shape (record o { default_value = d }) ps a i

-- a property, but for the three that the root passes over
abbrev pub property_read : Option (List ℕ) → List ℕ → Shape → Shapes → Shapes
property_read None n s ss = shape_at n s ss
property_read (Some k) n s ss = ss

-- a document that is no object spells no schema: any value
abbrev mutual
  pub shape_read : Bool → Json → Shape
  shape_read root null = shape (plain Any) no_map no_shape no_shape
  shape_read root (boolean b) = shape (plain Any) no_map no_shape no_shape
  shape_read root (whole z) = shape (plain Any) no_map no_shape no_shape
  shape_read root (text t) = shape (plain Any) no_map no_shape no_shape
  shape_read root (list js) = shape (plain Any) no_map no_shape no_shape
  shape_read root (object ms) =
      with_default (value_at (word Default) ms) (shape (own_read root ms) (map_read root ms) (inner_read Additional ms) (inner_read ItemsWord ms))

  -- the schema under `additionalProperties` or `items`
  pub inner_read : Keyword → Members → MaybeShape
  inner_read w no_members = no_shape
  inner_read w (member k j ms) = cond (is_name (word w) k) (some_shape (shape_read false j)) (inner_read w ms)

  -- the schemas under `properties`
  pub map_read : Bool → Members → MaybeShapes
  map_read root no_members = no_map
  map_read root (member k j ms) = cond (is_name (word Properties) k) (named_read root j) (map_read root ms)

  pub named_read : Bool → Json → MaybeShapes
  named_read root null = no_map
  named_read root (boolean b) = no_map
  named_read root (whole z) = no_map
  named_read root (text t) = no_map
  named_read root (list js) = no_map
  named_read root (object ps) = some_map (shapes_read root ps)

  pub shapes_read : Bool → Members → Shapes
  shapes_read root no_members = no_shapes
  shapes_read root (member n j ps) = property_read (passed_type root n) n (shape_read false j) (shapes_read root ps)

-- the shape of a node without its own default
abbrev pub bare_read : Bool → Members → Shape
bare_read root ms = shape (own_read root ms) (map_read root ms) (inner_read Additional ms) (inner_read ItemsWord ms)
