-- When a record of the store keeps an object of the history.
use Rattle.std.specs.Prelude.{◌≡◌, ℕ, List, Option, None, Some, IsTrue}
use Rattle.kube_meta.specs.View.{ObjectView}
use Rattle.record_store.specs.View.{Item as RecordItem, Old}
use Rattle.api_calls.specs.Meaning.{Meaning}
use Rattle.api_calls.specs.Versions.{IsStored}
use Rattle.api_calls.specs.Objects.{Stored}
use Rattle.api_calls.specs.Snap.{Past}

-- the bytes are the stored text at a version of a whole hub value; where it is known what values mean, of this one
pub record IsText (m : Meaning) (at : ℕ) (h : ObjectView) (bytes : List ℕ) : Type 0 where
  pub value : ObjectView
  pub stored : IsStored m at value bytes
  pub same : IsTrue m.honest → value ≡ h

-- a record has an object's key, numbers, version and weight, and the text of its value
pub record KeepsObject (m : Meaning) (x : RecordItem) (e : Stored) : Type 0 where
  pub key : x.key ≡ e.key
  pub number : x.rv ≡ e.number
  pub at : x.at ≡ e.at
  pub born : x.born ≡ e.born
  pub weight : x.weight ≡ e.weight
  pub text : IsText m e.at e.h x.bytes

-- a record is there exactly where an object is, and keeps it
abbrev pub IsFound : Meaning → Option RecordItem → Option Stored → Type 0
IsFound m None None = Unit {0}
IsFound m None (Some e) = ⊥
IsFound m (Some x) None = ⊥
IsFound m (Some x) (Some e) = KeepsObject m x e

-- a superseded record keeps the object that it was, and has the number that superseded it
pub record KeepsPast (m : Meaning) (o : Old) (p : Past) : Type 0 where
  pub by : o.by ≡ p.by
  pub object : KeepsObject m o.item p.object
