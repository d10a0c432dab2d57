-- Why a document has no value at other versions: the first step that fails. There is one filling of a body, and what is
-- said of it is said of that one.
use Rattle.std.specs.Prelude.{◌≡◌, ℕ, ◌++◌, Some}
use Rattle.kj_value.specs.Json.{Json}
use Rattle.kj_value.specs.Fields.{Pairs}
use Rattle.kj_value.specs.declared.rule.Rule.TheVariants as rule
use Rattle.kube_meta.specs.View.{ObjectView}
use Rattle.api_calls.specs.Cause.{CauseView}
use Rattle.api_calls.specs.Meaning.{Fault, invalid}
use Rattle.hub_cells.specs.Level.{Name}
use Rattle.crd_meaning.specs.Definition.{Definition}
use Rattle.crd_meaning.specs.Request.{breaks}
use Rattle.crd_meaning.specs.Admission.{IsFilling}
use Rattle.crd_meaning.specs.Refusal.{broken_at, annotation_prefix}
use Rattle.crd_meaning.specs.Document.{early, IsGiven}
use Rattle.crd_meaning.specs.Converted.{schema_at, IsPassed, IsUnreadDocument}

-- the filled body breaks a rule of the schema
pub record IsBrokenDocument (d : Definition) (j : Json) (f : Fault) : Type 0 where
  pub version : ℕ
  pub object : ObjectView
  pub taken : IsGiven d j version object
  pub cause : CauseView
  pub told : f ≡ invalid object.meta.name cause
  pub broken : (k : Pairs) → IsFilling (schema_at d version) object.body k → broken_at (schema_at d version) k ≡ Some cause

-- a reserved annotation isn't well formed
pub record IsBadlyKeptDocument (d : Definition) (j : Json) (f : Fault) : Type 0 where
  pub version : ℕ
  pub object : ObjectView
  pub passed : IsPassed d j version object
  pub key : Name
  pub unread : IsUnreadDocument d version object key
  pub told : f ≡ breaks object.meta.name (annotation_prefix ++ key) rule.Kept

pub data IsUnconverted (d : Definition) (j : Json) (f : Fault) : Type 0 where
  is_early : early d j ≡ Some f → IsUnconverted d j f
  is_broken : IsBrokenDocument d j f → IsUnconverted d j f
  badly_kept : IsBadlyKeptDocument d j f → IsUnconverted d j f
