-- What a replace makes of an admitted value, what is known of the object that it replaces, and its reply.
use Rattle.std.specs.Prelude.{◌≡◌, ◌≢◌, ◌⊎◌, ◌↔◌, ℕ, pos, ◌+◌, ◌<◌, ◌^◌, true, false, List, Option, None, Some, FitsSigned, IsTrue}
use Rattle.std.specs.Int.{w64}
use Rattle.kube_meta.specs.Key.{KeyView}
use Rattle.kube_meta.specs.View.{ObjectView, object_of}
use Rattle.api_calls.specs.Calls.{Server}
use Rattle.api_calls.specs.Item.{Item}
use Rattle.api_calls.specs.Legal.{key_of}
use Rattle.api_calls.specs.Meaning.{Meaning, Request}
use Rattle.api_calls.specs.Objects.{Stored, find}
use Rattle.api_calls.specs.Refusal.{RefusalView, conflict, converter, no_memory, not_found}
use Rattle.api_calls.specs.Replies.{Answer, ReplaceReply, WeighsIt, finalizer_added}
use Rattle.api_calls.specs.State.{revision, served, state}
use Rattle.api_calls.specs.Values.{IsUpdate, is_forbidden, is_release}
use Rattle.api_calls.specs.Versions.{IsStored}
use Rattle.api_calls.specs.Writes.{Takes}
use Rattle.api_core.specs.declared.seen.Seen.{Seen}
use Rattle.write_texts.specs.declared.change.Change.{Change}
use Rattle.write_texts.specs.declared.update.Update.{Update}

-- ---- values

-- what a replace makes of a new value over the hub value of a stored text
pub record Updates (m : Meaning) (at : ℕ) (bytes : List ℕ) (new : ObjectView) (u : Update) : Type 0 where
  pub old : ObjectView
  pub stored : IsStored m at old bytes
  pub update : IsUpdate old new (object_of u.hub)
  pub fits : FitsSigned w64 (object_of u.hub).meta.generation
  pub equals : IsTrue u.equal ↔ (object_of u.hub ≡ old)
  pub forbidden : u.forbidden ≡ is_forbidden old (object_of u.hub)
  pub ends : u.release ≡ is_release old (object_of u.hub)

-- the object that a request replaces isn't there, or stands at another number
abbrev pub Misses : KeyView → ℕ → Option Seen → RefusalView → Type 0
Misses k over None e = e ≡ not_found k.name
Misses k over (Some s) e = (s.rv ≢ over) × (e ≡ conflict k.name s.rv)

-- memory was wanted, or the tool had a fault
abbrev pub IsFailed : Type 0 → RefusalView → Type 0
IsFailed rose e = (e ≡ no_memory) ⊎ (rose × (e ≡ converter))

-- the update of what was seen adds a finalizer to an object that is being deleted
pub record Forbids (m : Meaning) (k : KeyView) (over : ℕ) (found : Option Seen) (new : ObjectView) (e : RefusalView) : Type 0 where
  pub seen : Seen
  pub there : found ≡ Some seen
  pub number : seen.rv ≡ over
  pub update : Update
  pub updates : Updates m seen.at seen.bytes.bytes new update
  pub forbidden : update.forbidden ≡ true
  pub told : e ≡ finalizer_added m k.name

abbrev pub RefusesReplace : Meaning → Type 0 → KeyView → ℕ → Option Seen → ObjectView → RefusalView → Type 0
RefusesReplace m rose k over found new e = IsFailed rose e ⊎ (Misses k over found e ⊎ Forbids m k over found new e)

-- what is to be entered of a new value, over what was seen
pub record Changes (m : Meaning) (v over w : ℕ) (found : Option Seen) (new : ObjectView) (c : Change) : Type 0 where
  pub seen : Seen
  pub there : found ≡ Some seen
  pub number : seen.rv ≡ over
  pub old : ObjectView
  pub stored : IsStored m seen.at old seen.bytes.bytes
  pub update : IsUpdate old new (object_of c.hub)
  pub fits : FitsSigned w64 (object_of c.hub).meta.generation
  pub equals : IsTrue c.equal ↔ (object_of c.hub ≡ old)
  pub allowed : is_forbidden old (object_of c.hub) ≡ false
  pub ends : c.release ≡ is_release old (object_of c.hub)
  pub version : c.v ≡ v
  pub weight : c.weight ≡ w
  pub numbered : c.over ≡ over
  pub born : c.born ≡ seen.born
  pub at : c.at ≡ seen.at

-- ---- an update that is entered, if it is

-- the update of an admitted value
pub record IsMade (m : Meaning) (q : Request) (k : KeyView) (old : ObjectView) (c : Change) : Type 0 where
  pub new : ObjectView
  pub version : c.v ≡ q.version
  pub known : c.v < m.count
  pub admits : m.admits q new (Some c.over)
  pub admitted : WeighsIt m new c.weight
  pub weighs : WeighsIt m (object_of c.hub) c.weight
  pub some : 0 < c.weight
  pub update : IsUpdate old new (object_of c.hub)
  pub equals : IsTrue c.equal ↔ (object_of c.hub ≡ old)
  pub allowed : is_forbidden old (object_of c.hub) ≡ false
  pub ends : is_release old (object_of c.hub) ≡ c.release
  pub whole : m.whole (object_of c.hub)
  pub key : key_of (object_of c.hub) ≡ k
  pub counts : IsTrue m.honest → (n : ℕ) × ((object_of c.hub).meta.generation ≡ pos n)
  pub born : c.born < 2 ^ 62

-- the object of the key stands at the update's number, its value taken for the old one, and the storage version is this one
pub record StandsOver (m : Meaning) (log : List Item) (k : KeyView) (old : ObjectView) (c : Change) (storage : ℕ) : Type 0 where
  pub object : Stored
  pub there : find k (state m log).objects ≡ Some object
  pub number : object.number ≡ c.over
  pub born : object.born ≡ c.born
  pub at : object.at ≡ c.at
  pub takes : Takes m object.h old
  pub may : served (state m log).flags c.v ≡ true
  pub stored : (state m log).flags.storage ≡ storage
  pub known : storage < m.count

pub record GoesOver (m : Meaning) (q : Request) (k : KeyView) (log : List Item) (c : Change) (storage : ℕ) : Type 0 where
  pub old : ObjectView
  pub made : IsMade m q k old c
  pub stands : StandsOver m log k old c storage

-- ---- how it comes out

-- the reply to a replace at a list
abbrev pub RepliesToReplace : Server → Request → KeyView → List Item → Answer → Option Item → Type 0
RepliesToReplace s q k log a i = ReplaceReply s.meaning s.limits s.boot (revision log + 1) (state s.meaning log) q k a i
