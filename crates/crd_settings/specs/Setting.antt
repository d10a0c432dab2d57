-- What the body of a PUT of a definition says of flags.
use Rattle.std.specs.Prelude.{◌≡◌, ◌≢◌, ℕ, true, false, List, Option, codes}
use Rattle.kj_value.specs.Json.{Json}
use Rattle.kj_value.specs.Fields.{Pairs, field}
use Rattle.kj_value.specs.declared.rule.Rule.TheVariants.{Immutable, Storage, Served}
use Rattle.api_calls.specs.Cause.{CauseView}
use Rattle.api_calls.specs.Meaning.{Fault, bad_request, invalid}
use Rattle.api_calls.specs.declared.flags.Flags.{Flags}
use Rattle.crd_reading.specs.View.{DefinitionView}
use Rattle.crd_reading.specs.Offered.{storages, some_served}
use Rattle.crd_reading.specs.Spelled.{full_name}
use Rattle.crd_settings.specs.Body.{IsDocument, IsNoDocument}
use Rattle.crd_settings.specs.Flags.{flags_of, versions_given, IsOwnSpec}

-- a `spec` that sets flags: the definition's own, with one storage version and one version that is served at least
pub record SetsBySpec (d : DefinitionView) (given : Option Json) (f : Flags) : Type 0 where
  pub own : IsOwnSpec d given
  pub one_storage : storages (versions_given given) ≡ 1
  pub some_served : some_served (versions_given given) ≡ true
  pub flags : f ≡ flags_of (versions_given given)

abbrev pub spec_path : List ℕ
spec_path = codes "spec"

abbrev pub versions_path : List ℕ
versions_path = codes "spec.versions"

-- the first rule that a `spec` breaks
pub data BreaksSpec (d : DefinitionView) (given : Option Json) (cause : CauseView) : Type 0 where
  another : (IsOwnSpec d given → ⊥) → cause ≡ record { field = spec_path; rule = Immutable } → BreaksSpec d given cause
  not_one_storage : IsOwnSpec d given → storages (versions_given given) ≢ 1 → cause ≡ record { field = versions_path; rule = Storage }
      → BreaksSpec d given cause
  none_served : IsOwnSpec d given → storages (versions_given given) ≡ 1 → some_served (versions_given given) ≡ false
      → cause ≡ record { field = versions_path; rule = Served } → BreaksSpec d given cause

-- the flags that a body sets
pub record Sets (d : DefinitionView) (body : List ℕ) (f : Flags) : Type 0 where
  pub fields : Pairs
  pub document : IsDocument body fields
  pub sets : SetsBySpec d (field (codes "spec") fields) f

-- the body is a CustomResourceDefinition that breaks a rule; the name is the definition's
pub record IsBadSetting (d : DefinitionView) (body name : List ℕ) (cause : CauseView) : Type 0 where
  pub fields : Pairs
  pub document : IsDocument body fields
  pub named : name ≡ full_name d
  pub breaks : BreaksSpec d (field (codes "spec") fields) cause

-- why a body sets no flags
abbrev pub RefusesFlags : DefinitionView → List ℕ → Fault → Type 0
RefusesFlags d body (bad_request why) = IsNoDocument body why
RefusesFlags d body (invalid name cause) = IsBadSetting d body name cause

-- ---- for private clauses

pub record IsBadSpec (d : DefinitionView) (given : Option Json) (name : List ℕ) (cause : CauseView) : Type 0 where
  pub named : name ≡ full_name d
  pub breaks : BreaksSpec d given cause

abbrev pub RefusesSpec : DefinitionView → Option Json → Fault → Type 0
RefusesSpec d given (bad_request why) = ⊥
RefusesSpec d given (invalid name cause) = IsBadSpec d given name cause
