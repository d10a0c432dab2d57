-- What is refused of a request before its body is filled, in this order; and the object that it submits.
use Rattle.std.specs.Prelude.{◌≡◌, ℕ, Bool, true, ◌&&◌, not, List, [], ◌∷◌, ◌++◌, map, Option, None, Some, is_some, option_map, codes, if◌then◌else◌}
use Rattle.std.specs.Str.{bytes_eq}
use Rattle.std.specs.Str.Parse.{digits_value}
use Rattle.kj_value.specs.Json.{Json, null, boolean, whole, text, list, object}
use Rattle.kj_value.specs.Reading.{Reads}
use Rattle.kj_value.specs.Fields.{Pairs, field}
use Rattle.kj_value.specs.declared.rule.Rule.{Rule}
use Rattle.kj_value.specs.declared.rule.Rule.TheVariants as rule
use Rattle.kube_meta.specs.View.{ObjectView}
use Rattle.object_reading.specs.Fields.{pairs_of, given, object_at}
use Rattle.object_reading.specs.Rules.{is_text, field_keeps}
use Rattle.object_reading.specs.Parts.{parts_in, submitted, object_in}
use Rattle.object_reading.specs.Refusal.{Refusal, judged_metadata, is_given_text}
use Rattle.object_reading.specs.Refusal as reading
use Rattle.api_calls.specs.Cause.{not_object, wrong_version, wrong_kind, wrong_namespace, wrong_name}
use Rattle.api_calls.specs.Meaning.{Request, Fault, bad_request, invalid}
use Rattle.api_calls.specs.declared.versions.TheConstants.{OBJECT_LEVELS}
use Rattle.keep_laws.specs.Spokes.{api_version}
use Rattle.crd_meaning.specs.Definition.{Definition, version_at}

-- ---- the paths of fields

unfoldable pub metadata_path : List ℕ
metadata_path = codes "metadata"

unfoldable pub metadata_prefix : List ℕ
metadata_prefix = codes "metadata."

unfoldable pub name_path : List ℕ
name_path = codes "metadata.name"

unfoldable pub number_path : List ℕ
number_path = codes "metadata.resourceVersion"

abbrev pub metadata_field : List ℕ → List ℕ
metadata_field [] = metadata_path
metadata_field (b ∷ bs) = metadata_prefix ++ b ∷ bs

-- ---- the table

-- faults, each with whether it is there
abbrev pub Judged : Type 0
Judged = List (Fault × Bool)

-- the first that is there
abbrev pub first_there : Judged → Option Fault
first_there [] = None
first_there (f ∷ fs) = if f.1 then Some f.0 else first_there fs

-- a field that breaks a rule, in an object of that name
abbrev pub breaks : List ℕ → List ℕ → Rule → Fault
breaks name path broken = invalid name (record { field = path; rule = broken })

-- what is refused of metadata, in an object of that name
abbrev pub metadata_fault : List ℕ → Refusal → Fault
metadata_fault name reading.not_object = bad_request not_object
metadata_fault name reading.bad_version = bad_request wrong_version
metadata_fault name reading.wrong_kind = bad_request wrong_kind
metadata_fault name (reading.bad_meta f) = breaks name (metadata_field f) rule.Kind
metadata_fault name reading.bad_name = breaks name name_path rule.Name

-- the name that the body gives, where that is a text
abbrev pub given_name : Pairs → List ℕ
given_name es = (parts_in es).meta.name

abbrev pub fault_rows : List ℕ → reading.Judged → Judged
fault_rows name judged = map (λ j. (metadata_fault name j.0, j.1)) judged

abbrev pub metadata_rows : Pairs → Judged
metadata_rows es = fault_rows (given_name es) (judged_metadata (given (field (codes "metadata") es)))

-- a request that creates has no number, and one that replaces has one
abbrev pub number_rows : List ℕ → Bool → Bool → Judged
number_rows name replaces numbered =
    (breaks name number_path rule.Forbidden, not replaces && numbered)
    ∷ (breaks name number_path rule.Required, replaces && not numbered)
    ∷ []

-- the number of what is submitted
abbrev pub number_text : Pairs → Option (List ℕ)
number_text es = (submitted (parts_in es)).meta.resource_version

abbrev pub later_rows : Request → Pairs → Judged
later_rows r es = metadata_rows es ++ number_rows (given_name es) (is_some r.name) (is_some (number_text es))

abbrev pub meta_fields : Pairs → Pairs
meta_fields es = object_at (field (codes "metadata") es)

abbrev pub version_row : Definition → Request → Pairs → Fault × Bool
version_row d r es =
    (bad_request wrong_version, not (is_given_text (λ s. bytes_eq s (api_version d.view.group (version_at d r.version).name)) (field (codes "apiVersion") es)))

abbrev pub is_of_kind : Definition → Pairs → Bool
is_of_kind d es = is_given_text (λ s. bytes_eq s d.view.kind) (field (codes "kind") es)

abbrev pub kind_row : Definition → Pairs → Fault × Bool
kind_row d es = (bad_request wrong_kind, not (is_of_kind d es))

-- a namespace that is given is the path's
abbrev pub namespace_row : Request → Pairs → Fault × Bool
namespace_row r es =
    (bad_request wrong_namespace, not (field_keeps (is_text (λ s. bytes_eq s r.ns)) (codes "namespace") (meta_fields es)))

-- where the path has a name, it is this one
abbrev pub is_named_so : Option (List ℕ) → Option Json → Bool
is_named_so None o = true
is_named_so (Some n) o = is_given_text (λ s. bytes_eq s n) o

abbrev pub name_row : Request → Pairs → Fault × Bool
name_row r es = (bad_request wrong_name, not (is_named_so r.name (given (field (codes "name") (meta_fields es)))))

abbrev pub rows : Definition → Request → Pairs → Judged
rows d r es = version_row d r es ∷ kind_row d es ∷ namespace_row r es ∷ name_row r es ∷ later_rows r es

-- the first that is there, by the rows of an object; another value is no object
abbrev pub early_by : (Pairs → Judged) → Json → Option Fault
early_by rows_of null = Some (bad_request not_object)
early_by rows_of (boolean b) = Some (bad_request not_object)
early_by rows_of (whole z) = Some (bad_request not_object)
early_by rows_of (text s) = Some (bad_request not_object)
early_by rows_of (list js) = Some (bad_request not_object)
early_by rows_of (object ms) = first_there (rows_of (pairs_of ms))

abbrev pub early : Definition → Request → Json → Option Fault
early d r j = early_by (rows d r) j

-- ---- the object

-- without its number, in the path's namespace
abbrev pub placed : List ℕ → ObjectView → ObjectView
placed ns x = record x { meta = record x.meta { namespace = ns; resource_version = None } }

-- the number that the digits of its text write
abbrev pub expected_of : ObjectView → Option ℕ
expected_of x = option_map (digits_value 10) x.meta.resource_version

-- the request's object and number, where nothing is refused before the body is filled
pub record IsTaken (d : Definition) (r : Request) (x : ObjectView) (e : Option ℕ) : Type 0 where
  pub value : Json
  pub reads : Reads r.bytes OBJECT_LEVELS value
  pub nothing : early d r value ≡ None
  pub object : x ≡ placed r.ns (object_in value)
  pub number : e ≡ expected_of (object_in value)
