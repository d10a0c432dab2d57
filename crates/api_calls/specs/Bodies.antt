-- What the body of a request says where the definition has no part in it: the start of a migration (storagemigration.k8s.io/v1alpha1) and the options of a delete (DeleteOptions of meta/v1).
use Rattle.std.specs.Prelude.{◌≡◌, ◌≢◌, ◌⊎◌, ℕ, true, false, List, [], Option, None, Some, codes}
use Rattle.kj_value.specs.Json.{Json, null, boolean, whole, text, list, object, Members, members_of}
use Rattle.kj_value.specs.Fields.{Pairs, field}
use Rattle.kj_value.specs.Kinds.{pairs_of}
use Rattle.kj_value.specs.Reading.{Reads}
use Rattle.kj_value.specs.Fault.{IsRefusedJson}
use Rattle.kj_value.specs.declared.reading.JsonFault.TheVariants.{NotJson, TooDeep, NotWhole}
use Rattle.kj_value.specs.declared.rule.Rule.TheVariants.{Name, Wrong}
use Rattle.kube_meta.specs.Names.{is_name}
use Rattle.api_calls.specs.Cause.{CauseView, WhyView, not_json, too_deep, not_whole, not_object, wrong_version, wrong_kind, wrong_namespace, wrong_name, bad_query, bad_token, bad_options}
use Rattle.api_calls.specs.Meaning.{Meaning, Fault, bad_request, invalid}
use Rattle.api_calls.specs.Documents.{migration_version, migration_kind}
use Rattle.api_calls.specs.declared.versions.TheConstants.{OBJECT_LEVELS}

-- ---- documents

-- the body is an object with these fields
abbrev pub ReadsObject : List ℕ → Pairs → Type 0
ReadsObject body fields = Reads body OBJECT_LEVELS (object (members_of fields))

-- the object says this apiVersion and this kind
pub record IsOfKind (asked asked_kind : List ℕ) (fields : Pairs) : Type 0 where
  pub api_version : field (codes "apiVersion") fields ≡ Some (text asked)
  pub kind : field (codes "kind") fields ≡ Some (text asked_kind)

-- the first reason for which the body is no document of this apiVersion and kind
abbrev pub IsNoDocument : List ℕ → List ℕ → List ℕ → WhyView → Type 0
IsNoDocument version kind body not_json = IsRefusedJson body OBJECT_LEVELS NotJson
IsNoDocument version kind body too_deep = IsRefusedJson body OBJECT_LEVELS TooDeep
IsNoDocument version kind body not_whole = IsRefusedJson body OBJECT_LEVELS NotWhole
IsNoDocument version kind body not_object =
    (j : Json) × Reads body OBJECT_LEVELS j × ((fields : Pairs) → j ≢ object (members_of fields))
IsNoDocument version kind body wrong_version =
    (fields : Pairs) × ReadsObject body fields × (field (codes "apiVersion") fields ≢ Some (text version))
IsNoDocument version kind body wrong_kind =
    (fields : Pairs) × ReadsObject body fields
    × (field (codes "apiVersion") fields ≡ Some (text version)) × (field (codes "kind") fields ≢ Some (text kind))
IsNoDocument version kind body wrong_namespace = ⊥
IsNoDocument version kind body wrong_name = ⊥
IsNoDocument version kind body (bad_query parameter) = ⊥
IsNoDocument version kind body bad_token = ⊥
IsNoDocument version kind body bad_options = ⊥

-- the fields of an object; any other value is read as an object with none
abbrev pub fields_of : Members → Pairs
fields_of ms = pairs_of ms

abbrev pub fields_in : Option Json → Pairs
fields_in None = []
fields_in (Some null) = []
fields_in (Some (boolean b)) = []
fields_in (Some (whole z)) = []
fields_in (Some (text s)) = []
fields_in (Some (list js)) = []
fields_in (Some (object ms)) = fields_of ms

-- a text; any other value is read as the empty one
abbrev pub text_in : Option Json → List ℕ
text_in None = []
text_in (Some null) = []
text_in (Some (boolean b)) = []
text_in (Some (whole z)) = []
text_in (Some (text s)) = s
text_in (Some (list js)) = []
text_in (Some (object ms)) = []

-- ---- the start of a migration

-- `metadata.name`
abbrev pub given_name : Pairs → List ℕ
given_name fields = text_in (field (codes "name") (fields_in (field (codes "metadata") fields)))

-- `spec.resource`
abbrev pub given_resource : Pairs → Pairs
given_resource fields = fields_in (field (codes "resource") (fields_in (field (codes "spec") fields)))

-- `spec.resource` names the definition's group and plural
pub record IsOfDefinition (m : Meaning) (fields : Pairs) : Type 0 where
  pub group : field (codes "group") (given_resource fields) ≡ Some (text m.group)
  pub resource : field (codes "resource") (given_resource fields) ≡ Some (text m.plural)

-- the body starts a migration of the definition's objects, of this name; its other fields aren't looked at
pub record Starts (m : Meaning) (body name : List ℕ) : Type 0 where
  pub fields : Pairs
  pub reads : ReadsObject body fields
  pub is : IsOfKind migration_version migration_kind fields
  pub named : given_name fields ≡ name
  pub legal : is_name name ≡ true
  pub resource : IsOfDefinition m fields

-- the first rule that a body of the right kind breaks
pub data BreaksStart (m : Meaning) (fields : Pairs) (name : List ℕ) (cause : CauseView) : Type 0 where
  no_name : is_name name ≡ false → cause ≡ record { field = codes "metadata.name"; rule = Name } → BreaksStart m fields name cause
  other_resource : is_name name ≡ true → (IsOfDefinition m fields → ⊥) → cause ≡ record { field = codes "spec.resource"; rule = Wrong }
      → BreaksStart m fields name cause

-- the body is a document of the right kind, which gives this name and breaks a rule
pub record IsBadStart (m : Meaning) (body name : List ℕ) (cause : CauseView) : Type 0 where
  pub fields : Pairs
  pub reads : ReadsObject body fields
  pub is : IsOfKind migration_version migration_kind fields
  pub named : given_name fields ≡ name
  pub breaks : BreaksStart m fields name cause

-- why a body starts no migration; a document that breaks a rule has the name that it gives
abbrev pub RefusesStart : Meaning → List ℕ → Fault → Type 0
RefusesStart m body (bad_request why) = IsNoDocument migration_version migration_kind body why
RefusesStart m body (invalid name cause) = IsBadStart m body name cause

-- ---- the options of a delete

-- the field is absent or null
abbrev pub IsUnset : List ℕ → Pairs → Type 0
IsUnset name fields = (field name fields ≡ None) ⊎ (field name fields ≡ Some null)

-- the body is an object that asks for no precondition and no dry run; its other fields aren't looked at
pub record HasServedOptions (body : List ℕ) : Type 0 where
  pub fields : Pairs
  pub reads : ReadsObject body fields
  pub preconditions : IsUnset (codes "preconditions") fields
  pub dry_run : IsUnset (codes "dryRun") fields

-- the body of a delete that is served: an empty one, or such options
abbrev pub IsServedDelete : List ℕ → Type 0
IsServedDelete body = (body ≡ []) ⊎ HasServedOptions body
