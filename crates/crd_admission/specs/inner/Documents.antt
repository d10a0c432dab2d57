-- For private clauses: what is known of a document on its way to another version.
use Rattle.std.specs.Prelude.{◌≡◌, ℕ, ◌<◌, true, List, Option, None, Some, option_map, codes}
use Rattle.kj_value.specs.Json.{Json}
use Rattle.kj_value.specs.Fields.{Pairs, field}
use Rattle.kube_meta.specs.View.{MetaView, ObjectView}
use Rattle.object_reading.specs.Fields.{given, object_at}
use Rattle.object_reading.specs.Parts.{text_or_empty, meta_in, submitted_meta}
use Rattle.object_reading.specs.Refusal.{first_holding, is_given_text}
use Rattle.api_calls.specs.Meaning.{Fault}
use Rattle.keep_laws.specs.FittedBody.{IsBody}
use Rattle.keep_laws.specs.Spokes.{api_version}
use Rattle.keep_laws.specs.WholeHub.{IsWholeHub}
use Rattle.crd_meaning.specs.Definition.{Definition, count_of, version_at, seat}
use Rattle.crd_meaning.specs.Objects.{IsFormAt}
use Rattle.crd_meaning.specs.Request.{metadata_fault}
use Rattle.crd_meaning.specs.Admission.{LeftAt}
use Rattle.crd_meaning.specs.Document.{is_version, judged_metadata}
use Rattle.crd_meaning.specs.Converted.{schema_at}

-- ---- the version

-- the text is group and version of version v
pub record IsNamedBy (d : Definition) (s : List ℕ) (v : ℕ) : Type 0 where
  pub known : v < count_of d
  pub text : s ≡ api_version d.view.group (version_at d v).name
  pub given : is_version d s ≡ true

-- the value at `apiVersion` is that text
pub record IsNamed (d : Definition) (v : ℕ) (o : Option Json) : Type 0 where
  pub known : v < count_of d
  pub text : text_or_empty o ≡ api_version d.view.group (version_at d v).name
  pub given : is_given_text (is_version d) o ≡ true

-- ---- the metadata

-- as a document submits them, without the number
abbrev pub numberless_meta : Pairs → MetaView
numberless_meta ms = record (submitted_meta (meta_in ms)) { resource_version = None }

-- what is told of the first field that breaks its rule, in a document with that value of `metadata`
abbrev pub IsBadMetadata : Json → Fault → Type 0
IsBadMetadata j f =
    option_map (metadata_fault (text_or_empty (field (codes "name") (object_at (Some j))))) (first_holding (judged_metadata (given (Some j)))) ≡ Some f

-- ---- the object

-- an object of version v, whose body is valid and filled
pub record IsOfVersion (d : Definition) (v : ℕ) (x : ObjectView) : Type 0 where
  pub known : v < count_of d
  pub version : x.api_version ≡ api_version d.view.group (version_at d v).name
  pub body : IsBody 0 (schema_at d v) x.body

-- h is whole, and one with what is left of x
pub record HasHub (d : Definition) (v : ℕ) (x h : ObjectView) : Type 0 where
  pub left : ObjectView
  pub settles : LeftAt d.spokes (seat d v) x left
  pub whole : IsWholeHub d.spokes h
  pub from : IsFormAt d v h left
