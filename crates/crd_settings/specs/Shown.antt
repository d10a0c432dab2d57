-- How a definition is shown: its document, with the flags and the stored versions of now.
use Rattle.std.specs.Prelude.{ℕ, false, List, [], ◌∷◌, length, map, codes}
use Rattle.kj_value.specs.Json.{Json, text, list, object, items_of, members_of}
use Rattle.kj_value.specs.Text.{text_of}
use Rattle.api_calls.specs.declared.flags.Flags.{Flags}
use Rattle.crd_reading.specs.Words.{api_version, document_kind}
use Rattle.crd_reading.specs.View.{DefinitionView}
use Rattle.crd_reading.specs.Spelled.{full_name}
use Rattle.crd_settings.specs.Flags.{version_in, mark_of, spec_with}
use Rattle.crd_settings.specs.declared.parts.Mark.{Mark}

-- the document of a definition whose versions have these flags, and with these names of stored versions
unfoldable pub document_with : DefinitionView → (ℕ → Mark) → List (List ℕ) → Json
document_with d m stored = object (members_of (
    (codes "apiVersion", text api_version)
    ∷ (codes "kind", text document_kind)
    ∷ (codes "metadata", object (members_of ((codes "name", text (full_name d)) ∷ [])))
    ∷ (codes "spec", spec_with m d.spec)
    ∷ (codes "status", object (members_of ((codes "storedVersions", list (items_of (map text stored))) ∷ [])))
    ∷ []))

-- the text with these flags and stored versions
abbrev pub shown : DefinitionView → Flags → List ℕ → List ℕ
shown d f stored = text_of (document_with d (mark_of f) (map (λ v. (version_in d.versions v).name) stored))

-- neither served nor stored
abbrev pub unmarked : ℕ → Mark
unmarked v = record { served = false; storage = false }

-- the length of the longest text of all: `false` is the longer truth value, and every version is stored
abbrev pub show_room : DefinitionView → ℕ
show_room d = length (text_of (document_with d unmarked (map (λ v. v.name) d.versions)))
