-- What a look sees, and what the caller knows of what it prepared.
use Rattle.std.specs.Prelude.{◌≡◌, ◌≢◌, ℕ, ◌*◌, ◌≤◌, List, [], length, Option, None, Some, option_map, IsTrue}
use Rattle.kube_meta.specs.Key.{KeyView}
use Rattle.kube_meta.specs.View.{ObjectView}
use Rattle.record_store.specs.View.{Item as RecordItem}
use Rattle.record_store.specs.declared.record.NewRecord.{NewRecord}
use Rattle.api_calls.specs.Meaning.{Meaning}
use Rattle.api_calls.specs.Item.{Item}
use Rattle.api_calls.specs.Objects.{Stored, find, marked}
use Rattle.api_calls.specs.State.{revision, state}
use Rattle.api_calls.specs.Legal.{IsValue, Follows, HasFinalizer, IsMarked}
use Rattle.api_core.specs.declared.seen.Seen.{Seen}
use Rattle.api_core.specs.declared.seen.Peeked.{Peeked}
use Rattle.api_core.specs.declared.seen.Prepared.{Prepared}
use Rattle.api_core.specs.Keeps.{IsText, IsFound}

-- ---- a look

-- what is seen of an object, as a record of the store
abbrev pub seen_item : Seen → RecordItem
seen_item s = record { key = s.key; at = s.at; rv = s.rv; born = s.born; weight = s.weight; bytes = s.bytes.bytes }

-- a look at a key sees the state of a list
pub record Sees (m : Meaning) (log : List Item) (k : KeyView) (p : Peeked) : Type 0 where
  pub flags : p.flags ≡ (state m log).flags
  pub revision : p.revision ≡ revision log
  pub found : IsFound m (option_map seen_item p.found) (find k (state m log).objects)

-- ---- what was prepared

-- a record for the store
abbrev pub record_for : Prepared → NewRecord
record_for p = record { key = p.key; at = p.at; weight = p.weight; bytes = p.bytes }

-- its weight isn't 0, and its text is within it
pub record IsSized (p : Prepared) : Type 0 where
  pub weighed : p.weight ≢ 0
  pub within : length p.bytes.bytes ≤ 256 * p.weight

-- a hub value with its key and weight, and its stored text at a version
pub record PreparesValue (m : Meaning) (p : Prepared) (h : ObjectView) : Type 0 where
  pub value : IsTrue m.honest → IsValue m p.key h p.weight
  pub text : IsText m p.at h p.bytes.bytes

-- what is known of the object of a key, where it stands at a number and it is known what values mean
abbrev pub KnownAt : Meaning → List Item → KeyView → ℕ → (Stored → Type 0) → Type 0
KnownAt m log k over P = (e : Stored) → find k (state m log).objects ≡ Some e → e.number ≡ over → IsTrue m.honest → P e

-- a value may replace the one of an object; one that is equal to it was prepared for another version than the object's
abbrev pub Replacing : Prepared → ObjectView → Stored → Type 0
Replacing p h e = Follows e.h h × (h ≡ e.h → e.at ≢ p.at)

-- a value is that of an object with a deletion stamp, where the object has a finalizer and no such stamp
abbrev pub Marking : ObjectView → List ℕ → Stored → Type 0
Marking h stamp e = HasFinalizer e.h × (e.h.meta.deleted ≡ None) × (h ≡ marked stamp e.h)

-- an object without a finalizer
abbrev pub IsFree : Stored → Type 0
IsFree e = e.h.meta.finalizers ≡ []

-- an object that is being deleted
abbrev pub IsEnding : Stored → Type 0
IsEnding e = IsMarked e.h

-- what was prepared has the key and the weight of the record that stands under a key, where that stands at a number
abbrev pub FitsAt : KeyView → ℕ → Prepared → Option RecordItem → Type 0
FitsAt k over p None = Unit {0}
FitsAt k over p (Some x) = x.rv ≡ over → (p.key ≡ k) × (p.weight ≡ x.weight)
