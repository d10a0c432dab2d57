-- Which document of a version is one with a document of any version.
use Rattle.std.specs.Prelude.{◌≡◌, ℕ, [], ◌∷◌, None, Some, codes}
use Rattle.kj_value.specs.Json.{Json, text, object, members_of}
use Rattle.kj_value.specs.Fields.{Pairs, with_field, without_field}
use Rattle.kube_meta.specs.View.{Texts, ObjectView}
use Rattle.kube_meta.specs.Document.{text_fields}
use Rattle.object_reading.specs.Fields.{object_at}
use Rattle.struct_schema.specs.Shape.{Shape}
use Rattle.struct_schema.specs.Fault.{fault}
use Rattle.hub_cells.specs.Level.{Name}
use Rattle.keep_laws.specs.WholeHub.{IsWholeHub}
use Rattle.keep_laws.specs.Over.{IsFirstBad}
use Rattle.crd_meaning.specs.Definition.{Definition, seat, version_at}
use Rattle.crd_meaning.specs.Objects.{IsFormAt}
use Rattle.crd_meaning.specs.Request.{meta_fields}
use Rattle.crd_meaning.specs.Admission.{IsFilling, LeftAt, own_name}
use Rattle.crd_meaning.specs.Document.{IsGiven}

-- ---- filled, and then checked

abbrev pub schema_at : Definition → ℕ → Shape
schema_at d v = (version_at d v).schema

-- the object that a document is at version v, with its body filled, which breaks no rule of the schema
pub record IsPassed (d : Definition) (j : Json) (v : ℕ) (x : ObjectView) : Type 0 where
  pub taken : ObjectView
  pub is : IsGiven d j v taken
  pub filling : IsFilling (schema_at d v) taken.body x.body
  pub rest : x ≡ record taken { body = x.body }
  pub valid : fault (schema_at d v) (object (members_of x.body)) ≡ None

-- k is the key of the first reserved annotation that can't be read
abbrev pub IsUnreadDocument : Definition → ℕ → ObjectView → Name → Type 0
IsUnreadDocument d v x k = IsFirstBad d.spokes (own_name (seat d v)) x.meta.annotations k

-- ---- at another version

-- y of version w is one with the whole hub value that is one with what is left of x, which stands at v
pub record IsOneWith (d : Definition) (v : ℕ) (x : ObjectView) (w : ℕ) (y : ObjectView) : Type 0 where
  pub left : ObjectView
  pub settles : LeftAt d.spokes (seat d v) x left
  pub hub : ObjectView
  pub whole : IsWholeHub d.spokes hub
  pub from : IsFormAt d v hub left
  pub to : IsFormAt d w hub y

-- ---- its document

-- the metadata as they stand, but for annotations
abbrev pub with_notes : Texts → Pairs → Pairs
with_notes [] ms = without_field (codes "annotations") ms
with_notes (t ∷ ts) ms = with_field (codes "annotations") (object (members_of (text_fields (t ∷ ts)))) ms

-- the document of y, whose metadata are those fields but for the annotations of y
unfoldable pub document_with : Pairs → ObjectView → Json
document_with ms y = object (members_of
    (with_field (codes "metadata") (object (members_of (with_notes y.meta.annotations ms)))
    (with_field (codes "kind") (text y.kind)
    (with_field (codes "apiVersion") (text y.api_version) y.body))))

-- the fields of a document's metadata, and none where there are no metadata
abbrev pub metadata_in : Json → Pairs
metadata_in j = meta_fields (object_at (Some j))

-- ---- every step is passed

-- k is the document at version `to` that is one with j
pub record IsConverted (d : Definition) (j : Json) (to : ℕ) (k : Json) : Type 0 where
  pub version : ℕ
  pub object : ObjectView
  pub passed : IsPassed d j version object
  pub read : (key : Name) → IsUnreadDocument d version object key → ⊥
  pub form : ObjectView
  pub one : IsOneWith d version object to form
  pub document : k ≡ document_with (metadata_in j) form
