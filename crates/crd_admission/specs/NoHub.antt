-- Why an object that passed has no hub value to be stored: an annotation can't be read, or the measure is too large.
use Rattle.std.specs.Prelude.{◌≡◌, ℕ, ◌++◌}
use Rattle.kj_value.specs.declared.rule.Rule.TheVariants as rule
use Rattle.kube_meta.specs.View.{ObjectView}
use Rattle.api_calls.specs.Meaning.{Fault}
use Rattle.hub_cells.specs.Level.{Name}
use Rattle.keep_laws.specs.Over.{IsFirstBad}
use Rattle.spoke_keep.specs.declared.fault.KeepFault.{KeepFault}
use Rattle.spoke_keep.specs.declared.fault.KeepFault.TheVariants.{BadKept, NoMemory}
use Rattle.crd_meaning.specs.Definition.{Definition, seat}
use Rattle.crd_meaning.specs.Request.{breaks}
use Rattle.crd_meaning.specs.Admission.{own_name, IsHubOf, IsLight}
use Rattle.crd_meaning.specs.Refusal.{annotation_prefix, object_path}

-- the first annotation that is read and spells no entries is named
pub record IsUnreadAt (d : Definition) (v : ℕ) (x : ObjectView) (f : Fault) : Type 0 where
  pub key : Name
  pub unread : IsFirstBad d.spokes (own_name (seat d v)) x.meta.annotations key
  pub told : f ≡ breaks x.meta.name (annotation_prefix ++ key) rule.Kept

-- each annotation that is read spells entries, and no hub value of the object is light
pub record IsHeavyAt (d : Definition) (v : ℕ) (x : ObjectView) (f : Fault) : Type 0 where
  pub read : (k : Name) → IsFirstBad d.spokes (own_name (seat d v)) x.meta.annotations k → ⊥
  pub large : (h : ObjectView) → IsHubOf d v x h → IsLight d h → ⊥
  pub told : f ≡ breaks x.meta.name object_path rule.Size

pub data HasNoHub (d : Definition) (v : ℕ) (x : ObjectView) (f : Fault) : Type 0 where
  unread : IsUnreadAt d v x f → HasNoHub d v x f
  heavy : IsHeavyAt d v x f → HasNoHub d v x f

-- for private clauses: what is told of a fault, in an object of that name
abbrev pub IsTold : Name → KeepFault → Fault → Type 0
IsTold name (BadKept a) f = f ≡ breaks name (annotation_prefix ++ a.bytes) rule.Kept
IsTold name NoMemory f = ⊥
