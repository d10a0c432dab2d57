-- For private clauses: how a commit and an attempt at a write came out.
use Rattle.std.specs.Prelude.{◌≡◌, ◌⊎◌, ℕ, ◌+◌, ◌<◌, Bool, true, false, List, Option, Some, Err, IsTrue}
use Rattle.kube_meta.specs.Key.{KeyView}
use Rattle.kube_meta.specs.View.{ObjectView}
use Rattle.api_calls.specs.Meaning.{Meaning}
use Rattle.api_calls.specs.Legal.{key_of}
use Rattle.api_calls.specs.ReplyLaws.{IsFinal}
use Rattle.api_calls.specs.Calls.{Server}
use Rattle.api_calls.specs.Ends.{WriteEnd, done, kept, same, unserved, present, gone, newer, forbidden, storage_moved, full, Decision}
use Rattle.api_calls.specs.Item.{Logged, Item, items}
use Rattle.api_calls.specs.Objects.{Stored, find}
use Rattle.api_calls.specs.State.{revision, state}
use Rattle.api_calls.specs.Writes.{create_commit, release_commit, replace_commit}
use Rattle.api_calls.specs.Refusal.{no_memory, converter}
use Rattle.api_calls.specs.Replies.{Answer, Wrote, code_created}
use Rattle.api_core.specs.declared.seen.Prepared.{Prepared}
use Rattle.turn_cell.specs.declared.view.View.{View}
use Rattle.call_texts.specs.Told.{decided}
use Rattle.shared_api.specs.inner.Turning.{Reads, Writes}
use Rattle.write_texts.specs.declared.tried.Tried.{Tried}
use Rattle.write_texts.specs.declared.tried.Tried.TheVariants.{Told, Moved}

-- an end with which an item was entered
abbrev pub is_done : WriteEnd → Bool
is_done (done rv born) = true
is_done (kept rv born) = true
is_done (same rv born) = false
is_done unserved = false
is_done present = false
is_done gone = false
is_done (newer n) = false
is_done forbidden = false
is_done (storage_moved now) = false
is_done (full room) = false

-- what is decided of a create of a value that was prepared
abbrev pub creates : Server → ℕ → Prepared → ObjectView → List Item → Decision WriteEnd
creates s v p h log = create_commit s.limits (revision log + 1) (state s.meaning log) v p.at p.key h p.weight

-- what is decided of a replace of the object at a number by a value that was prepared
abbrev pub replaces : Server → ℕ → ℕ → Prepared → ObjectView → List Item → Decision WriteEnd
replaces s v over p h log = replace_commit s.limits (revision log + 1) (state s.meaning log) v p.at p.key over h p.weight

-- what is decided of the release of the object at a number
abbrev pub releases : Server → ℕ → KeyView → ℕ → List Item → Decision WriteEnd
releases s v k over log = release_commit (revision log + 1) (state s.meaning log) v k over

-- the object of a key stood at a number, and this was known of it where it is known what values mean
pub record SeenAt (m : Meaning) (log : List Item) (k : KeyView) (over : ℕ) (P : Stored → Type 0) : Type 0 where
  pub object : Stored
  pub there : find k (state m log).objects ≡ Some object
  pub number : object.number ≡ over
  pub known : IsTrue m.honest → P object

-- a turn in which a commit ended so, as it is decided at a list
pub record Commits {B : Type 0} (s : Server) (v z : View B) (D : List Item → Decision WriteEnd) (e : WriteEnd) : Type 0 where
  pub log : List Logged
  pub writes : Writes s v z log (D (items log)).item
  pub ends : e ≡ (D (items log)).answer

-- an answer after a turn at which it is decided
pub record Decided {B : Type 0} (s : Server) (v z : View B) (D : List Item → Answer → Option Item → Type 0) (a : Answer) : Type 0 where
  pub log : List Logged
  pub item : Option Item
  pub writes : Writes s v z log item
  pub answers : D (items log) a item

-- turns that added nothing, if any
pub record Stays {B : Type 0} (s : Server) (v z : View B) : Type 0 where
  pub log : List Logged
  pub reads : Reads s v z log

abbrev pub Rested : {B : Type 0} → Server → View B → View B → Type 0
Rested s v z = (z ≡ v) ⊎ Stays s v z

-- an answer that isn't decided: memory was wanted, or the tool had a fault
pub record Failed {B : Type 0} (s : Server) (rose : Type 0) (v z : View B) (a : Answer) : Type 0 where
  pub rested : Rested s v z
  pub cause : (a ≡ Err no_memory) ⊎ (rose × (a ≡ Err converter))

abbrev pub Results : {B : Type 0} → Server → Type 0 → View B → View B → (List Item → Answer → Option Item → Type 0) → Answer → Type 0
Results s rose v z D a = Decided s v z D a ⊎ Failed s rose v z a

-- an attempt: an answer, or another storage version to prepare for
abbrev pub Tries : {B : Type 0} → Server → Type 0 → View B → View B → (List Item → Answer → Option Item → Type 0) → Tried → Type 0
Tries s rose v z D (Told r) = Results s rose v z D (decided r)
Tries s rose v z D (Moved now) = Rested s v z × (now < s.meaning.count)

-- the answer to a create of a value, by the end of its commit
abbrev pub Created : Server → ℕ → ObjectView → ℕ → List Item → Answer → Option Item → Type 0
Created s v h w log a i =
    (at : ℕ) × (let d = create_commit s.limits (revision log + 1) (state s.meaning log) v at (key_of h) h w in
    IsFinal d.answer × Wrote s.meaning s.boot code_created v h.meta.name h d.answer a × (i ≡ d.item))
