-- The definition of the shared example, at one storage version or the other.
use Rattle.std.specs.Prelude.{ℕ, ◌%◌, Bool, not, List, [], ◌∷◌, ◌==◌, codes}
use Rattle.kj_value.specs.Json.{Json, text}
use Rattle.kj_value.specs.Text.{text_of}
use Rattle.built_in.specs.Texts.{fields, items}
use Rattle.built_in.specs.Example.{version, hub_schema, stored_schema, names}
use Rattle.drill_requests.specs.Bodies.{hub_version, spoke_version}

-- the definition of the example, stored at its hub or at its spoke
abbrev pub stored_spec : Bool → Json
stored_spec at_hub = fields (
    (codes "group", text (codes "example.com"))
    ∷ (codes "names", names)
    ∷ (codes "scope", text (codes "Namespaced"))
    ∷ (codes "versions", items (version hub_version hub_schema at_hub ∷ version spoke_version stored_schema (not at_hub) ∷ []))
    ∷ [])

unfoldable pub stored_definition : Bool → Json
stored_definition at_hub = fields (
    (codes "apiVersion", text (codes "apiextensions.k8s.io/v1"))
    ∷ (codes "kind", text (codes "CustomResourceDefinition"))
    ∷ (codes "metadata", fields ((codes "name", text (codes "crontabs.example.com")) ∷ []))
    ∷ (codes "spec", stored_spec at_hub)
    ∷ [])

-- the storage version is the other one: the hub at first, and then by turns
abbrev pub switch_body : ℕ → List ℕ
switch_body switches = text_of (stored_definition (switches % 2 == 0))
