-- The keywords of one node, as its document spells them. A keyword that isn't there, or isn't allowed, says nothing.
use Rattle.std.specs.Prelude.{ℕ, ℤ, List, [], ◌∷◌, Bool, Option, Some, None, is_none, filter}
use Rattle.kj_value.specs.Json.{Json, whole, text, list, Items, no_items, item, Members}
use Rattle.kj_value.specs.Kinds.{list_of}
use Rattle.struct_schema.specs.Shape.{Own}
use Rattle.struct_schema.specs.Names.{value_at}
use Rattle.struct_schema.specs.declared.kind.NodeKind.{NodeKind}
use Rattle.struct_schema.specs.declared.kind.NodeKind.TheVariants.{Any}
use Rattle.schema_reading.specs.Words.{word, passed_type}
use Rattle.schema_reading.specs.Kind.{is_yes, node_kind}
use Rattle.schema_reading.specs.Allowed.{format_of}
use Rattle.struct_schema.specs.declared.kind.IntFormat.{IntFormat}
use Rattle.schema_reading.specs.declared.words.Keyword.TheVariants.{Enum, Format, MaxItems, MaxLength, Maximum, MinItems, MinLength, Minimum, Nullable, Required, Preserve}

abbrev pub kind_or_any : Option NodeKind → NodeKind
kind_or_any None = Any
kind_or_any (Some k) = k

abbrev pub number_of : Option Json → Option ℤ
number_of (Some (whole z)) = Some z
number_of _ = None

abbrev pub choices_of : Option Json → Option (List Json)
choices_of (Some (list js)) = Some (list_of js)
choices_of _ = None

abbrev pub form_of : Option Json → Option IntFormat
form_of None = None
form_of (Some j) = format_of j

-- the texts of a list
abbrev pub texts_in : Items → List (List ℕ)
texts_in no_items = []
texts_in (item (text t) js) = t ∷ texts_in js
texts_in (item j js) = texts_in js

abbrev pub names_of : Option Json → List (List ℕ)
names_of (Some (list js)) = texts_in js
names_of _ = []

-- the root's three names of every object are passed over
abbrev pub is_counted : Bool → List ℕ → Bool
is_counted root n = is_none (passed_type root n)

abbrev pub own_read : Bool → Members → Own
own_read root ms = record {
  kind = kind_or_any (node_kind ms);
  preserve = is_yes (value_at (word Preserve) ms);
  nullable = is_yes (value_at (word Nullable) ms);
  choices = choices_of (value_at (word Enum) ms);
  minimum = number_of (value_at (word Minimum) ms);
  maximum = number_of (value_at (word Maximum) ms);
  format = form_of (value_at (word Format) ms);
  min_length = number_of (value_at (word MinLength) ms);
  max_length = number_of (value_at (word MaxLength) ms);
  min_items = number_of (value_at (word MinItems) ms);
  max_items = number_of (value_at (word MaxItems) ms);
  required = filter (is_counted root) (names_of (value_at (word Required) ms));
  default_value = None;
}
