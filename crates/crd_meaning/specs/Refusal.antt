-- Why a request is refused: the first step that fails. There is one filling of a body and one hub value of an object, and
-- what is said of each is said of that one.
use Rattle.std.specs.Prelude.{◌≡◌, ℕ, ◌++◌, List, Option, Some, option_map, codes}
use Rattle.kj_value.specs.Json.{Json, object, members_of}
use Rattle.kj_value.specs.Reading.{Reads}
use Rattle.kj_value.specs.Fault.{IsRefusedJson}
use Rattle.kj_value.specs.Fields.{Pairs}
use Rattle.kj_value.specs.declared.reading.JsonFault.TheVariants.{NotJson, TooDeep, NotWhole}
use Rattle.kj_value.specs.declared.rule.Rule.TheVariants as rule
use Rattle.kube_meta.specs.View.{ObjectView}
use Rattle.struct_schema.specs.Shape.{Shape}
use Rattle.struct_schema.specs.Path.{path_text}
use Rattle.struct_schema.specs.Fault as check
use Rattle.api_calls.specs.Cause.{CauseView, not_json, too_deep, not_whole, not_object, wrong_version, wrong_kind, wrong_namespace, wrong_name, bad_query, bad_token, bad_options}
use Rattle.api_calls.specs.Meaning.{Request, Fault, bad_request, invalid}
use Rattle.api_calls.specs.declared.versions.TheConstants.{OBJECT_LEVELS}
use Rattle.hub_cells.specs.Level.{Name}
use Rattle.crd_meaning.specs.Definition.{Definition}
use Rattle.crd_meaning.specs.Request.{breaks, early, IsTaken}
use Rattle.crd_meaning.specs.Admission.{schema_of, IsFilling, Passes, IsUnread, IsHubOf, IsLight}

-- ---- the bytes are no value of at most 64 levels whose numbers are whole

abbrev pub IsNoValue : Request → Fault → Type 0
IsNoValue r (bad_request not_json) = IsRefusedJson r.bytes OBJECT_LEVELS NotJson
IsNoValue r (bad_request too_deep) = IsRefusedJson r.bytes OBJECT_LEVELS TooDeep
IsNoValue r (bad_request not_whole) = IsRefusedJson r.bytes OBJECT_LEVELS NotWhole
IsNoValue r (bad_request not_object) = ⊥
IsNoValue r (bad_request wrong_version) = ⊥
IsNoValue r (bad_request wrong_kind) = ⊥
IsNoValue r (bad_request wrong_namespace) = ⊥
IsNoValue r (bad_request wrong_name) = ⊥
IsNoValue r (bad_request (bad_query parameter)) = ⊥
IsNoValue r (bad_request bad_token) = ⊥
IsNoValue r (bad_request bad_options) = ⊥
IsNoValue r (invalid name cause) = ⊥

-- ---- the request, the version, the kind, the names and the metadata

pub record IsEarly (d : Definition) (r : Request) (f : Fault) : Type 0 where
  pub value : Json
  pub reads : Reads r.bytes OBJECT_LEVELS value
  pub told : early d r value ≡ Some f

-- ---- the filled body breaks a rule of the schema

abbrev pub cause_at : check.Fault → CauseView
cause_at g = record { field = path_text g.path; rule = g.rule }

abbrev pub broken_at : Shape → Pairs → Option CauseView
broken_at s k = option_map cause_at (check.fault s (object (members_of k)))

pub record IsBroken (d : Definition) (r : Request) (f : Fault) : Type 0 where
  pub object : ObjectView
  pub number : Option ℕ
  pub taken : IsTaken d r object number
  pub cause : CauseView
  pub told : f ≡ invalid object.meta.name cause
  pub broken : (k : Pairs) → IsFilling (schema_of d r) object.body k → broken_at (schema_of d r) k ≡ Some cause

-- ---- a reserved annotation isn't well formed

unfoldable pub annotation_prefix : List ℕ
annotation_prefix = codes "metadata.annotations."

pub record IsBadlyKept (d : Definition) (r : Request) (f : Fault) : Type 0 where
  pub object : ObjectView
  pub number : Option ℕ
  pub passes : Passes d r object number
  pub key : Name
  pub unread : IsUnread d r object key
  pub told : f ≡ breaks object.meta.name (annotation_prefix ++ key) rule.Kept

-- ---- the hub value measures too much

unfoldable pub object_path : List ℕ
object_path = codes "object"

pub record IsTooLarge (d : Definition) (r : Request) (f : Fault) : Type 0 where
  pub object : ObjectView
  pub number : Option ℕ
  pub passes : Passes d r object number
  pub read : (k : Name) → IsUnread d r object k → ⊥
  pub large : (h : ObjectView) → IsHubOf d r.version object h → IsLight d h → ⊥
  pub told : f ≡ breaks object.meta.name object_path rule.Size

-- ---- one of these

pub data RefusesRequest (d : Definition) (r : Request) (f : Fault) : Type 0 where
  no_value : IsNoValue r f → RefusesRequest d r f
  is_early : IsEarly d r f → RefusesRequest d r f
  is_broken : IsBroken d r f → RefusesRequest d r f
  badly_kept : IsBadlyKept d r f → RefusesRequest d r f
  too_large : IsTooLarge d r f → RefusesRequest d r f
