-- The shape that a schema is.
use Rattle.std.specs.Prelude.{ℕ, List, option_map}
use Rattle.kj_value.specs.Seen.{json}
use Rattle.struct_schema.specs.Shape.{Own, Shape, shape, map_of, maybe_of}
use Rattle.struct_schema.specs.declared.schema.Schema.{Schema}
use Rattle.struct_schema.specs.declared.schema.SchemaField.{SchemaField}

abbrev pub own_of : Schema → Own
own_of s = record {
  kind = s.kind;
  preserve = s.preserve;
  nullable = s.nullable;
  choices = s.choices;
  minimum = s.minimum;
  maximum = s.maximum;
  format = s.format;
  min_length = s.min_length;
  max_length = s.max_length;
  min_items = s.min_items;
  max_items = s.max_items;
  required = s.required;
  default_value = option_map json s.default_value;
}

abbrev pub shape_of : Schema → Shape
shape_of s = shape (own_of s) (map_of s.properties) (maybe_of s.additional) (maybe_of s.items)

abbrev pub named_shape : SchemaField → List ℕ × Shape
named_shape f = (f.name.bytes, shape_of f.schema)
