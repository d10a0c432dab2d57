-- The definition that is built in, a CustomResourceDefinition of apiextensions.k8s.io/v1, and its rules of conversion: each
-- as a document, whose names rise by bytes, and as the compact text of that document.
use Rattle.std.specs.Prelude.{ℕ, List, [], ◌∷◌, Bool, true, false, codes}
use Rattle.kj_value.specs.Json.{Json, boolean, text, list, object, items_of, members_of}
use Rattle.kj_value.specs.Fields.{Pairs}
use Rattle.kj_value.specs.Text.{text_of}

abbrev pub fields : Pairs → Json
fields ps = object (members_of ps)

abbrev pub items : List Json → Json
items js = list (items_of js)

-- ---- the names that the definition and its rules share

abbrev pub hub_version : List ℕ
hub_version = codes "v1"

abbrev pub stored_version : List ℕ
stored_version = codes "v1beta1"

-- the one property of each
abbrev pub hub_property : List ℕ
hub_property = codes "host"

abbrev pub stored_property : List ℕ
stored_property = codes "address"

-- ---- the definition

-- the schema of a text
abbrev pub text_schema : Json
text_schema = fields ((codes "type", text (codes "string")) ∷ [])

-- the schema of an object that has one property, a text
abbrev pub object_schema : List ℕ → Json
object_schema property = fields (
    (codes "properties", fields ((property, text_schema) ∷ []))
    ∷ (codes "type", text (codes "object"))
    ∷ [])

-- a served version, by its name, its property, and whether it is the storage version
abbrev pub version : List ℕ → List ℕ → Bool → Json
version name property storage = fields (
    (codes "name", text name)
    ∷ (codes "schema", fields ((codes "openAPIV3Schema", object_schema property) ∷ []))
    ∷ (codes "served", boolean true)
    ∷ (codes "storage", boolean storage)
    ∷ [])

abbrev pub metadata : Json
metadata = fields ((codes "name", text (codes "crontabs.example.com")) ∷ [])

abbrev pub names : Json
names = fields (
    (codes "kind", text (codes "CronTab"))
    ∷ (codes "plural", text (codes "crontabs"))
    ∷ [])

abbrev pub versions : Json
versions = items (version hub_version hub_property false ∷ version stored_version stored_property true ∷ [])

abbrev pub spec : Json
spec = fields (
    (codes "group", text (codes "example.com"))
    ∷ (codes "names", names)
    ∷ (codes "scope", text (codes "Namespaced"))
    ∷ (codes "versions", versions)
    ∷ [])

unfoldable pub definition_document : Json
definition_document = fields (
    (codes "apiVersion", text (codes "apiextensions.k8s.io/v1"))
    ∷ (codes "kind", text (codes "CustomResourceDefinition"))
    ∷ (codes "metadata", metadata)
    ∷ (codes "spec", spec)
    ∷ [])

unfoldable pub definition_text : List ℕ
definition_text = text_of definition_document

-- ---- the rules

-- the property of the stored version is that of the hub
abbrev pub same_rule : Json
same_rule = fields ((codes "same", items (text stored_property ∷ text hub_property ∷ [])) ∷ [])

abbrev pub spokes : Json
spokes = fields ((stored_version, items (same_rule ∷ [])) ∷ [])

unfoldable pub rules_document : Json
rules_document = fields (
    (codes "hub", text hub_version)
    ∷ (codes "spokes", spokes)
    ∷ [])

unfoldable pub rules_text : List ℕ
rules_text = text_of rules_document
