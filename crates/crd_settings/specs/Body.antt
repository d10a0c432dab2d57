-- What the body of a PUT of a definition, or of a trim, reads as. It is read at as many levels as a definition is.
use Rattle.std.specs.Prelude.{◌≡◌, ◌≢◌, ◌⊎◌, ℕ, List, Bool, false, Option, None, Some, codes}
use Rattle.kj_value.specs.Json.{Json, object, text, members_of}
use Rattle.kj_value.specs.Fields.{Pairs, field}
use Rattle.kj_value.specs.Reading.{Reads}
use Rattle.kj_value.specs.Fault.{IsRefusedJson}
use Rattle.kj_value.specs.declared.reading.JsonFault.TheVariants.{NotJson, TooDeep, NotWhole}
use Rattle.kj_value.specs.declared.reading.TheConstants.{MAX_JSON_LEVELS}
use Rattle.kj_value.specs.declared.rule.Rule.{Rule}
use Rattle.schema_reading.specs.Allowed.{is_text}
use Rattle.api_calls.specs.Cause.{WhyView, cause_of, not_json, too_deep, not_whole, not_object, wrong_version, wrong_kind, wrong_namespace, wrong_name, bad_query, bad_token, bad_options}
use Rattle.api_calls.specs.Meaning.{Fault, bad_request, invalid}
use Rattle.api_calls.specs.Bodies.{IsOfKind}
use Rattle.api_calls.specs.declared.versions.AdmitFault.{AdmitFault}
use Rattle.api_calls.specs.declared.versions.AdmitFault.TheVariants as fault
use Rattle.crd_reading.specs.Words.{api_version, document_kind}

-- the body is an object with these fields
abbrev pub ReadsObject : List ℕ → Pairs → Type 0
ReadsObject body fields = Reads body MAX_JSON_LEVELS (object (members_of fields))

-- why the body is no object
abbrev pub IsNoObject : List ℕ → WhyView → Type 0
IsNoObject body not_json = IsRefusedJson body MAX_JSON_LEVELS NotJson
IsNoObject body too_deep = IsRefusedJson body MAX_JSON_LEVELS TooDeep
IsNoObject body not_whole = IsRefusedJson body MAX_JSON_LEVELS NotWhole
IsNoObject body not_object =
    (j : Json) × Reads body MAX_JSON_LEVELS j × ((fields : Pairs) → j ≢ object (members_of fields))
IsNoObject body wrong_version = ⊥
IsNoObject body wrong_kind = ⊥
IsNoObject body wrong_namespace = ⊥
IsNoObject body wrong_name = ⊥
IsNoObject body (bad_query parameter) = ⊥
IsNoObject body bad_token = ⊥
IsNoObject body bad_options = ⊥

-- the first of the two by which an object is no CustomResourceDefinition
abbrev pub IsOtherKind : List ℕ → WhyView → Type 0
IsOtherKind body not_json = ⊥
IsOtherKind body too_deep = ⊥
IsOtherKind body not_whole = ⊥
IsOtherKind body not_object = ⊥
IsOtherKind body wrong_version =
    (fields : Pairs) × ReadsObject body fields × (field (codes "apiVersion") fields ≢ Some (text api_version))
IsOtherKind body wrong_kind =
    (fields : Pairs) × ReadsObject body fields
    × (field (codes "apiVersion") fields ≡ Some (text api_version)) × (field (codes "kind") fields ≢ Some (text document_kind))
IsOtherKind body wrong_namespace = ⊥
IsOtherKind body wrong_name = ⊥
IsOtherKind body (bad_query parameter) = ⊥
IsOtherKind body bad_token = ⊥
IsOtherKind body bad_options = ⊥

-- the first reason for which the body is no CustomResourceDefinition
abbrev pub IsNoDocument : List ℕ → WhyView → Type 0
IsNoDocument body why = IsNoObject body why ⊎ IsOtherKind body why

-- the body is a CustomResourceDefinition with these fields
pub record IsDocument (body : List ℕ) (fields : Pairs) : Type 0 where
  pub reads : ReadsObject body fields
  pub is : IsOfKind api_version document_kind fields

-- ---- for private clauses

abbrev pub NoObject : List ℕ → Fault → Type 0
NoObject body (bad_request why) = IsNoObject body why
NoObject body (invalid name cause) = ⊥

abbrev pub NoDocument : List ℕ → Fault → Type 0
NoDocument body (bad_request why) = IsNoDocument body why
NoDocument body (invalid name cause) = ⊥

-- a fault with this name, field and rule
abbrev pub IsFault : List ℕ → List ℕ → Rule → AdmitFault → Type 0
IsFault name path broken (fault.BadRequest why) = ⊥
IsFault name path broken (fault.Invalid given cause) = (given.bytes ≡ name) × (cause_of cause ≡ record { field = path; rule = broken })
IsFault name path broken fault.Tool = ⊥
IsFault name path broken fault.NoMemory = ⊥

-- the text stands there
abbrev pub says : List ℕ → Option Json → Bool
says s None = false
says s (Some j) = is_text s j
