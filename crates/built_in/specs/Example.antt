-- The definition of the example, a CustomResourceDefinition of apiextensions.k8s.io/v1, and its rules of conversion: the
-- documents that their texts read as.
use Rattle.std.specs.Prelude.{ℕ, pos, List, [], ◌∷◌, Bool, true, false, codes}
use Rattle.kj_value.specs.Json.{Json, null, boolean, whole, text}
use Rattle.kj_value.specs.Fields.{Pairs}
use Rattle.built_in.specs.Texts.{fields, items, text_schema, metadata}

-- ---- schemas

-- a node of a type with no other keyword
abbrev pub typed : List ℕ → Json
typed t = fields ((codes "type", text t) ∷ [])

abbrev pub whole_schema : Json
whole_schema = typed (codes "integer")

-- whole numbers from 0 to a greatest
abbrev pub range_schema : ℕ → Json
range_schema most = fields (
    (codes "maximum", whole (pos most))
    ∷ (codes "minimum", whole (pos 0))
    ∷ (codes "type", text (codes "integer"))
    ∷ [])

abbrev pub note_schema : Json
note_schema = fields (
    (codes "nullable", boolean true)
    ∷ (codes "type", text (codes "string"))
    ∷ [])

abbrev pub paused_schema : Json
paused_schema = fields (
    (codes "default", boolean false)
    ∷ (codes "type", text (codes "boolean"))
    ∷ [])

abbrev pub object_schema : Pairs → Json
object_schema properties = fields (
    (codes "properties", fields properties)
    ∷ (codes "type", text (codes "object"))
    ∷ [])

-- an object that keeps what it doesn't know
abbrev pub extra_schema : Json
extra_schema = fields (
    (codes "properties", fields ((codes "known", object_schema ((codes "a", whole_schema) ∷ [])) ∷ []))
    ∷ (codes "type", text (codes "object"))
    ∷ (codes "x-kubernetes-preserve-unknown-fields", boolean true)
    ∷ [])

abbrev pub hub_schema : Json
hub_schema = object_schema (
    (codes "extra", extra_schema)
    ∷ (codes "host", text_schema)
    ∷ (codes "level", whole_schema)
    ∷ (codes "note", note_schema)
    ∷ (codes "owner", text_schema)
    ∷ (codes "paused", paused_schema)
    ∷ (codes "port", text_schema)
    ∷ (codes "timeoutMillis", range_schema 1000999)
    ∷ [])

abbrev pub stored_schema : Json
stored_schema = object_schema (
    (codes "extra", extra_schema)
    ∷ (codes "hostPort", text_schema)
    ∷ (codes "legacy", text_schema)
    ∷ (codes "note", note_schema)
    ∷ (codes "paused", paused_schema)
    ∷ (codes "size", text_schema)
    ∷ (codes "timeoutSeconds", range_schema 1000)
    ∷ [])

-- ---- the definition

-- a served version, by its name, its schema, and whether it is the storage version
abbrev pub version : List ℕ → Json → Bool → Json
version name schema storage = fields (
    (codes "name", text name)
    ∷ (codes "schema", fields ((codes "openAPIV3Schema", schema) ∷ []))
    ∷ (codes "served", boolean true)
    ∷ (codes "storage", boolean storage)
    ∷ [])

abbrev pub names : Json
names = fields (
    (codes "kind", text (codes "CronTab"))
    ∷ (codes "plural", text (codes "crontabs"))
    ∷ (codes "singular", text (codes "crontab"))
    ∷ [])

abbrev pub versions : Json
versions = items (version (codes "v1") hub_schema false ∷ version (codes "v1beta1") stored_schema true ∷ [])

abbrev pub spec : Json
spec = fields (
    (codes "group", text (codes "example.com"))
    ∷ (codes "names", names)
    ∷ (codes "scope", text (codes "Namespaced"))
    ∷ (codes "versions", versions)
    ∷ [])

unfoldable pub definition_document : Json
definition_document = fields (
    (codes "apiVersion", text (codes "apiextensions.k8s.io/v1"))
    ∷ (codes "kind", text (codes "CustomResourceDefinition"))
    ∷ (codes "metadata", metadata)
    ∷ (codes "spec", spec)
    ∷ [])

-- ---- the rules

abbrev pub two : List ℕ → List ℕ → Json
two a b = items (text a ∷ text b ∷ [])

abbrev pub split_rule : Json
split_rule = fields ((
  codes "split",
  fields (
      (codes "hub", two (codes "host") (codes "port"))
      ∷ (codes "spoke", text (codes "hostPort"))
      ∷ []),
) ∷ [])

abbrev pub scale_rule : Json
scale_rule = fields ((
  codes "scale",
  fields (
      (codes "by", whole (pos 1000))
      ∷ (codes "names", two (codes "timeoutSeconds") (codes "timeoutMillis"))
      ∷ []),
) ∷ [])

-- a listed value of the stored version with that of the hub
abbrev pub pair : List ℕ → ℕ → Json
pair size level = items (text size ∷ whole (pos level) ∷ [])

abbrev pub table_rule : Json
table_rule = fields ((
  codes "table",
  fields (
      (codes "hubBlank", null)
      ∷ (codes "names", two (codes "size") (codes "level"))
      ∷ (codes "pairs", items (pair (codes "small") 1 ∷ pair (codes "large") 2 ∷ []))
      ∷ (codes "spokeBlank", null)
      ∷ []),
) ∷ [])

abbrev pub stored_rules : Json
stored_rules = items (
    split_rule
    ∷ scale_rule
    ∷ table_rule
    ∷ fields ((codes "spokeOnly", text (codes "legacy")) ∷ [])
    ∷ fields ((codes "hubOnly", text (codes "owner")) ∷ [])
    ∷ [])

unfoldable pub rules_document : Json
rules_document = fields (
    (codes "hub", text (codes "v1"))
    ∷ (codes "spokes", fields ((codes "v1beta1", stored_rules) ∷ []))
    ∷ [])
