-- The keywords of a schema document (apiextensions.k8s.io/v1, `JSONSchemaProps`), and how each is spelled.
use Rattle.std.specs.Prelude.{ℕ, List, [], ◌∷◌, Bool, Option, Some, None, cond, codes}
use Rattle.std.specs.Str.{bytes_eq}
use Rattle.schema_reading.specs.declared.words.Keyword.{Keyword}
use Rattle.schema_reading.specs.declared.words.Keyword.TheVariants.{Additional, AnyOf, Default, Description, Enum, Example, ExternalDocs, Format, Items, MaxItems, MaxLength, Maximum, MinItems, MinLength, Minimum, Nullable, Properties, Required, Title, Kind as TypeWord, IntOrString, Preserve}

unfoldable pub word : Keyword → List ℕ
word Additional = codes "additionalProperties"
word AnyOf = codes "anyOf"
word Default = codes "default"
word Description = codes "description"
word Enum = codes "enum"
word Example = codes "example"
word ExternalDocs = codes "externalDocs"
word Format = codes "format"
word Items = codes "items"
word MaxItems = codes "maxItems"
word MaxLength = codes "maxLength"
word Maximum = codes "maximum"
word MinItems = codes "minItems"
word MinLength = codes "minLength"
word Minimum = codes "minimum"
word Nullable = codes "nullable"
word Properties = codes "properties"
word Required = codes "required"
word Title = codes "title"
word TypeWord = codes "type"
word IntOrString = codes "x-kubernetes-int-or-string"
word Preserve = codes "x-kubernetes-preserve-unknown-fields"

-- the keyword that is spelled so, among some
abbrev pub spelled : List Keyword → List ℕ → Option Keyword
spelled [] n = None
spelled (w ∷ ws) n = cond (bytes_eq n (word w)) (Some w) (spelled ws n)

abbrev pub all_words : List Keyword
all_words =
    Additional ∷ AnyOf ∷ Default ∷ Description ∷ Enum ∷ Example ∷ ExternalDocs ∷ Format ∷ Items ∷ MaxItems ∷ MaxLength ∷ Maximum ∷ MinItems ∷ MinLength ∷ Minimum ∷ Nullable ∷ Properties ∷ Required ∷ Title ∷ TypeWord ∷ IntOrString ∷ Preserve ∷ []

unfoldable pub keyword_named : List ℕ → Option Keyword
keyword_named n = spelled all_words n

-- what is refused where a node is too deep or one too many
unfoldable pub limit_word : List ℕ
limit_word = codes "Limit"

-- the three names of every object that the root may name, each with its type
unfoldable pub meta_type : List ℕ → Option (List ℕ)
meta_type n =
    cond (bytes_eq n (codes "apiVersion")) (Some (codes "string")) (cond (bytes_eq n (codes "kind")) (Some (codes "string")) (cond (bytes_eq n (codes "metadata")) (Some (codes "object")) None))

-- at the root alone
abbrev pub passed_type : Bool → List ℕ → Option (List ℕ)
passed_type root n = cond root (meta_type n) None
