-- What is refused of a document of any version before its body is filled, in this order; and the object that it is.
use Rattle.std.specs.Prelude.{◌≡◌, ℕ, ◌<◌, Bool, not, List, [], ◌∷◌, Option, None, codes}
use Rattle.std.specs.Str.{bytes_eq}
use Rattle.std.specs.List.{list_any}
use Rattle.kj_value.specs.Json.{Json}
use Rattle.kj_value.specs.Fields.{Pairs, field}
use Rattle.kj_value.specs.declared.rule.Rule.TheVariants as rule
use Rattle.kube_meta.specs.View.{ObjectView}
use Rattle.object_reading.specs.Fields.{given, object_at}
use Rattle.object_reading.specs.Rules.{keeps, is_list, is_object, is_text, any_list, any_object, are_labels, are_annotations, are_finalizers, field_keeps}
use Rattle.object_reading.specs.Numbers.{is_resource_version}
use Rattle.object_reading.specs.Parts.{object_in}
use Rattle.object_reading.specs.Refusal.{bad_meta, is_given_text}
use Rattle.object_reading.specs.Refusal as reading
use Rattle.api_calls.specs.Meaning.{Fault}
use Rattle.crd_reading.specs.View.{VersionView}
use Rattle.keep_laws.specs.Spokes.{api_version}
use Rattle.crd_meaning.specs.Definition.{Definition, count_of, version_at}
use Rattle.crd_meaning.specs.Request.{Judged, breaks, fault_rows, given_name, is_of_kind, early_by}

unfoldable pub version_path : List ℕ
version_path = codes "apiVersion"

unfoldable pub kind_path : List ℕ
kind_path = codes "kind"

-- ---- the version and the kind

-- the text is group and version of one of the definition's versions
abbrev pub is_version : Definition → List ℕ → Bool
is_version d s = list_any (λ (v : VersionView). bytes_eq s (api_version d.view.group v.name)) d.view.versions

abbrev pub version_row : Definition → Pairs → Fault × Bool
version_row d es =
    (breaks (given_name es) version_path rule.Wrong, not (is_given_text (is_version d) (field (codes "apiVersion") es)))

abbrev pub kind_row : Definition → Pairs → Fault × Bool
kind_row d es =
    (breaks (given_name es) kind_path rule.Wrong, not (is_of_kind d es))

-- ---- the metadata, whose name and namespace aren't looked at

abbrev pub judged_fields : Pairs → reading.Judged
judged_fields ms =
    (bad_meta (codes "annotations"), not (field_keeps are_annotations (codes "annotations") ms))
    ∷ (bad_meta (codes "finalizers"), not (field_keeps are_finalizers (codes "finalizers") ms))
    ∷ (bad_meta (codes "labels"), not (field_keeps are_labels (codes "labels") ms))
    ∷ (bad_meta (codes "ownerReferences"), not (field_keeps (is_list any_list) (codes "ownerReferences") ms))
    ∷ (bad_meta (codes "resourceVersion"), not (field_keeps (is_text is_resource_version) (codes "resourceVersion") ms))
    ∷ []

abbrev pub judged_metadata : Option Json → reading.Judged
judged_metadata m = (bad_meta [], not (keeps (is_object any_object) m)) ∷ judged_fields (object_at m)

abbrev pub metadata_rows : Pairs → Judged
metadata_rows es = fault_rows (given_name es) (judged_metadata (given (field (codes "metadata") es)))

-- ---- the table

abbrev pub rows : Definition → Pairs → Judged
rows d es = version_row d es ∷ kind_row d es ∷ metadata_rows es

abbrev pub early : Definition → Json → Option Fault
early d j = early_by (rows d) j

-- ---- the object

-- x without its number
abbrev pub numberless : ObjectView → ObjectView
numberless x = record x { meta = record x.meta { resource_version = None } }

-- x, which is at version v, is the object that the document submits, where nothing is refused before its body is filled
pub record IsGiven (d : Definition) (j : Json) (v : ℕ) (x : ObjectView) : Type 0 where
  pub nothing : early d j ≡ None
  pub known : v < count_of d
  pub version : x.api_version ≡ api_version d.view.group (version_at d v).name
  pub object : x ≡ numberless (object_in j)
