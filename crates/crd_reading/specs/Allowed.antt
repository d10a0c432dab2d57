-- Which values may stand at a place, whatever stands inside them, and the word of one that may not.
use Rattle.std.specs.Prelude.{ℕ, List, Bool, true, false, ◌&&◌, not, Option, None, Some, length, slice_get, nat_le}
use Rattle.std.specs.Char.{is_ascii_alphabetic, is_ascii_alphanumeric}
use Rattle.std.specs.List.{list_all}
use Rattle.kj_value.specs.Json.{Json, boolean, text, list}
use Rattle.kube_meta.specs.Names.{is_name, is_namespace}
use Rattle.struct_schema.specs.Keywords.{item_count}
use Rattle.schema_reading.specs.Allowed.{is_object_value, is_truth, is_text}
use Rattle.crd_reading.specs.Words.{shape_word, unknown_word, api_version, document_kind, namespaced}
use Rattle.crd_reading.specs.declared.places.Place.{Place}
use Rattle.crd_reading.specs.declared.places.Place.TheVariants.{Document, MetadataObject, SpecObject, NamesObject, VersionList, VersionObject, SchemaObject, ApiVersionText, KindText, ScopeText, AnyText, NameText, LabelText, KindName, Truth, Never, AnyObject, Any, Nowhere}
use Rattle.crd_reading.specs.declared.places.TheConstants.{MIN_VERSIONS, MAX_VERSIONS, KIND_BYTES}

abbrev pub begins_with_letter : Option ℕ → Bool
begins_with_letter None = false
begins_with_letter (Some b) = is_ascii_alphabetic b

-- 1 to 63 letters and digits of ASCII, the first a letter
unfoldable pub is_kind_name : List ℕ → Bool
is_kind_name s =
    nat_le (length s) KIND_BYTES && begins_with_letter (slice_get s 0) && list_all is_ascii_alphanumeric s

abbrev pub any_text : List ℕ → Bool
any_text s = true

-- a text of a kind
abbrev pub is_text_of : (List ℕ → Bool) → Json → Bool
is_text_of p (text t) = p t
is_text_of p _ = false

abbrev pub is_false : Json → Bool
is_false (boolean b) = not b
is_false _ = false

-- as many as a definition may have versions
abbrev pub are_few : ℕ → Bool
are_few n = nat_le MIN_VERSIONS n && nat_le n MAX_VERSIONS

-- a list of so many items
abbrev pub is_few : Json → Bool
is_few (list js) = are_few (item_count js)
is_few _ = false

abbrev pub is_allowed : Place → Json → Bool
is_allowed Document j = is_object_value j
is_allowed MetadataObject j = is_object_value j
is_allowed SpecObject j = is_object_value j
is_allowed NamesObject j = is_object_value j
is_allowed VersionList j = is_few j
is_allowed VersionObject j = is_object_value j
is_allowed SchemaObject j = is_object_value j
is_allowed ApiVersionText j = is_text api_version j
is_allowed KindText j = is_text document_kind j
is_allowed ScopeText j = is_text namespaced j
is_allowed AnyText j = is_text_of any_text j
is_allowed NameText j = is_text_of is_name j
is_allowed LabelText j = is_text_of is_namespace j
is_allowed KindName j = is_text_of is_kind_name j
is_allowed Truth j = is_truth j
is_allowed Never j = is_false j
is_allowed AnyObject j = is_object_value j
is_allowed Any j = true
is_allowed Nowhere j = false

abbrev pub blame : Place → List ℕ
blame Nowhere = unknown_word
blame _ = shape_word
