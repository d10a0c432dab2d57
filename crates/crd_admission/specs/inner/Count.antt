-- What private clauses count: the bytes of fields, and what is left of a number of bytes.
use Rattle.std.specs.Prelude.{◌≡◌, ℕ, ◌+◌, ◌<◌, List, [], ◌∷◌, Bool, ◌||◌, map, Option, length, codes, if◌then◌else◌, MatchOption}
use Rattle.std.specs.Str.{bytes_eq}
use Rattle.kj_value.specs.Json.{Json, text}
use Rattle.kj_value.specs.Fields.{Pairs}
use Rattle.kj_value.specs.Text.{quoted, text_of}
use Rattle.kube_meta.specs.View.{MetaView, ObjectView}
use Rattle.kube_meta.specs.Document.{optional, some_text, some_texts, some_list}
use Rattle.crd_admission.specs.declared.measured_meta.TheConstants.{STAMPED}

-- what is left once so many bytes are taken, or none where there are fewer
abbrev pub Leaves : ℕ → ℕ → Option ℕ → Type 0
Leaves left bytes r = MatchOption r (left < bytes) (λ n. n + bytes ≡ left)

-- a field's name, its colon, its value, and the comma or the brace behind it
abbrev pub field_bytes : List ℕ × Json → ℕ
field_bytes p = length (quoted p.0) + 2 + length (text_of p.1)

abbrev pub total : (List ℕ × Json → ℕ) → Pairs → ℕ
total f [] = 0
total f (p ∷ ps) = f p + total f ps

-- the names that have an object's own values
abbrev pub is_own : List ℕ → Bool
is_own k = bytes_eq k (codes "apiVersion") || bytes_eq k (codes "kind") || bytes_eq k (codes "metadata")

abbrev pub other_bytes : List ℕ × Json → ℕ
other_bytes p = if is_own p.0 then 0 else field_bytes p

-- a field that is written where there is something to write
abbrev pub optional_bytes : List ℕ → Option Json → ℕ
optional_bytes k o = total field_bytes (optional k o)

-- the metadata's fields, with stamps and a generation of most bytes, and a brace
abbrev pub meta_bytes : MetaView → ℕ
meta_bytes m =
    1 + STAMPED
    + optional_bytes (codes "annotations") (some_texts m.annotations)
    + optional_bytes (codes "finalizers") (some_list (map text m.finalizers))
    + optional_bytes (codes "labels") (some_texts m.labels)
    + optional_bytes (codes "name") (some_text m.name)
    + optional_bytes (codes "namespace") (some_text m.namespace)
    + optional_bytes (codes "ownerReferences") (some_list m.owners)

-- the object's fields, and a brace
abbrev pub document_bytes : ObjectView → ℕ
document_bytes o =
    1 + field_bytes (codes "apiVersion", text o.api_version) + field_bytes (codes "kind", text o.kind)
    + length (quoted (codes "metadata")) + 2 + meta_bytes o.meta + total other_bytes o.body
