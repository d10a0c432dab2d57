-- Which values each keyword may have, by the kind of its node.
use Rattle.std.specs.Prelude.{ℕ, List, [], ◌∷◌, Bool, true, false, ◌&&◌, not, Option, Some, None, is_some, is_none, cond, codes}
use Rattle.std.specs.List.{list_any}
use Rattle.std.specs.Str.{bytes_eq}
use Rattle.kj_value.specs.Json.{Json, boolean, whole, text, list, object, Items, no_items, item, Members, no_members, member}
use Rattle.struct_schema.specs.Names.{value_at}
use Rattle.struct_schema.specs.declared.kind.NodeKind.{NodeKind}
use Rattle.struct_schema.specs.declared.kind.NodeKind.TheVariants.{Object, Array, Text, Whole, IntOrText, Any}
use Rattle.struct_schema.specs.declared.kind.IntFormat.{IntFormat}
use Rattle.struct_schema.specs.declared.kind.IntFormat.TheVariants.{Int32, Int64}
use Rattle.schema_reading.specs.Words.{word, keyword_named}
use Rattle.schema_reading.specs.Kind.{is_object_kind, is_yes}
use Rattle.schema_reading.specs.declared.words.Keyword.{Keyword}
use Rattle.schema_reading.specs.declared.words.Keyword.TheVariants.{Additional, AnyOf, Default, Description, Enum, Example, ExternalDocs, Format, Items as ItemsWord, MaxItems, MaxLength, Maximum, MinItems, MinLength, Minimum, Nullable, Properties, Required, Title, Kind as TypeWord, IntOrString, Preserve}
use Rattle.schema_reading.specs.declared.words.Scope.{Scope}
use Rattle.schema_reading.specs.declared.words.Scope.TheVariants.{Node, Meta}

-- ---- the kinds

abbrev pub is_array_kind : Option NodeKind → Bool
is_array_kind (Some Array) = true
is_array_kind _ = false

abbrev pub is_text_kind : Option NodeKind → Bool
is_text_kind (Some Text) = true
is_text_kind _ = false

abbrev pub is_whole_kind : Option NodeKind → Bool
is_whole_kind (Some Whole) = true
is_whole_kind _ = false

-- a whole number or a text
abbrev pub is_mixed_kind : Option NodeKind → Bool
is_mixed_kind (Some IntOrText) = true
is_mixed_kind _ = false

-- where unknown names may be kept: an object, and a node without `type`
abbrev pub is_open_kind : Option NodeKind → Bool
is_open_kind (Some Object) = true
is_open_kind (Some IntOrText) = true
is_open_kind (Some Any) = true
is_open_kind _ = false

-- ---- the values

abbrev pub is_truth : Json → Bool
is_truth (boolean b) = true
is_truth _ = false

abbrev pub is_number : Json → Bool
is_number (whole z) = true
is_number _ = false

abbrev pub is_object_value : Json → Bool
is_object_value (object ms) = true
is_object_value _ = false

abbrev pub is_filled_list : Json → Bool
is_filled_list (list (item j js)) = true
is_filled_list _ = false

-- `format` of a whole number
unfoldable pub format_named : List ℕ → Option IntFormat
format_named t = cond (bytes_eq t (codes "int32")) (Some Int32) (cond (bytes_eq t (codes "int64")) (Some Int64) None)

abbrev pub format_of : Json → Option IntFormat
format_of (text t) = format_named t
format_of _ = None

-- each is a text, unlike those before it
abbrev pub are_new : List (List ℕ) → Items → Bool
are_new done no_items = true
are_new done (item (text t) js) = not (list_any (bytes_eq t) done) && are_new (t ∷ done) js
are_new done (item j js) = false

-- a list of texts of which none stands twice
abbrev pub are_names : Json → Bool
are_names (list js) = are_new [] js
are_names _ = false

abbrev pub is_text : List ℕ → Json → Bool
is_text t (text s) = bytes_eq s t
is_text t _ = false

-- an object whose one name is `type`, with this text
abbrev pub asks_type : List ℕ → Json → Bool
asks_type t (object (member k j no_members)) = bytes_eq k (word TypeWord) && is_text t j
asks_type t _ = false

-- the one list that `anyOf` may be: a whole number, or else a text
abbrev pub is_either : Json → Bool
is_either (list (item a (item b no_items))) = asks_type (codes "integer") a && asks_type (codes "string") b
is_either _ = false

-- ---- the keywords

-- those that are passed over
abbrev pub is_note : Keyword → Bool
is_note Description = true
is_note Title = true
is_note Example = true
is_note ExternalDocs = true
is_note _ = false

-- a keyword of a node, but for `type`, `items` and `additionalProperties`; `default` is tried by itself, last
abbrev pub fits : Option NodeKind → Keyword → Json → Bool
fits k IntOrString j = is_mixed_kind k && is_yes (Some j)
fits k Preserve j = is_open_kind k && is_yes (Some j)
fits k Nullable j = is_truth j
fits k Enum j = is_filled_list j
fits k Minimum j = is_whole_kind k && is_number j
fits k Maximum j = is_whole_kind k && is_number j
fits k Format j = is_whole_kind k && is_some (format_of j)
fits k MinLength j = is_text_kind k && is_number j
fits k MaxLength j = is_text_kind k && is_number j
fits k MinItems j = is_array_kind k && is_number j
fits k MaxItems j = is_array_kind k && is_number j
fits k Required j = is_object_kind k && are_names j
fits k Properties j = is_object_kind k && is_object_value j
fits k AnyOf j = is_mixed_kind k && is_either j
fits k Default j = true
fits k Description j = true
fits k Title j = true
fits k Example j = true
fits k ExternalDocs j = true
fits k Additional j = false
fits k ItemsWord j = false
fits k TypeWord j = false

-- under one of the three names that the root may name: what is passed over alone; `default` is tried last there too
abbrev pub fits_meta : Keyword → Bool
fits_meta Default = true
fits_meta w = is_note w

abbrev pub fits_scope : Scope → Keyword → Json → Bool
fits_scope (Node k) w j = fits k w j
fits_scope Meta w j = fits_meta w

abbrev pub known_fits : Scope → Option Keyword → Json → Bool
known_fits s None j = false
known_fits s (Some w) j = fits_scope s w j

-- a name of a node, but for those three
abbrev pub is_allowed : Scope → List ℕ → Json → Bool
is_allowed s n j = known_fits s (keyword_named n) j

-- `items`: a schema at an array, which must have it
abbrev pub items_allowed : Option NodeKind → Option Json → Bool
items_allowed k None = not (is_array_kind k)
items_allowed k (Some j) = is_array_kind k && is_object_value j

-- `additionalProperties`: a schema at an object without `properties`
abbrev pub additional_allowed : Option NodeKind → Members → Option Json → Bool
additional_allowed k ms None = true
additional_allowed k ms (Some j) = is_object_kind k && is_object_value j && is_none (value_at (word Properties) ms)
