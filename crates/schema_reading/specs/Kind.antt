-- What a node of a schema document asks of a value's kind.
use Rattle.std.specs.Prelude.{ℕ, List, Bool, true, false, Option, Some, None, is_some, cond, codes}
use Rattle.std.specs.Str.{bytes_eq}
use Rattle.kj_value.specs.Json.{Json, null, boolean, whole, text, list, object, Members}
use Rattle.struct_schema.specs.Names.{value_at}
use Rattle.struct_schema.specs.declared.kind.NodeKind.{NodeKind}
use Rattle.struct_schema.specs.declared.kind.NodeKind.TheVariants.{Object, Array, Text, Whole, Truth, IntOrText, Any}
use Rattle.schema_reading.specs.Words.{word}
use Rattle.schema_reading.specs.declared.words.Keyword.TheVariants.{Kind as TypeWord, IntOrString, Preserve}

unfoldable pub type_named : List ℕ → Option NodeKind
type_named n =
    cond (bytes_eq n (codes "object")) (Some Object) (cond (bytes_eq n (codes "array")) (Some Array) (cond (bytes_eq n (codes "string")) (Some Text) (cond (bytes_eq n (codes "integer")) (Some Whole) (cond (bytes_eq n (codes "boolean")) (Some Truth) None))))

abbrev pub is_object_kind : Option NodeKind → Bool
is_object_kind None = false
is_object_kind (Some Object) = true
is_object_kind (Some Array) = false
is_object_kind (Some Text) = false
is_object_kind (Some Whole) = false
is_object_kind (Some Truth) = false
is_object_kind (Some IntOrText) = false
is_object_kind (Some Any) = false

-- the value of `type`
abbrev pub type_kind : Json → Option NodeKind
type_kind (text t) = type_named t
type_kind null = None
type_kind (boolean b) = None
type_kind (whole z) = None
type_kind (list js) = None
type_kind (object ms) = None

-- a truth value that is true
abbrev pub is_yes : Option Json → Bool
is_yes None = false
is_yes (Some null) = false
is_yes (Some (boolean b)) = b
is_yes (Some (whole z)) = false
is_yes (Some (text t)) = false
is_yes (Some (list js)) = false
is_yes (Some (object ms)) = false

-- the two nodes without `type`; one that asks for both is one of a whole number or a text
abbrev pub untyped_kind : Members → Option NodeKind
untyped_kind ms =
    cond (is_yes (value_at (word IntOrString) ms)) (Some IntOrText) (cond (is_yes (value_at (word Preserve) ms)) (Some Any) None)

abbrev pub kind_by : Option Json → Members → Option NodeKind
kind_by None ms = untyped_kind ms
kind_by (Some j) ms = type_kind j

-- the kind of a node, by which its keywords are judged; none where the document says none
abbrev pub node_kind : Members → Option NodeKind
node_kind ms = kind_by (value_at (word TypeWord) ms) ms

-- a node has a kind, and the root is an object
abbrev pub type_allowed : Bool → Option NodeKind → Bool
type_allowed root k = cond root (is_object_kind k) (is_some k)
