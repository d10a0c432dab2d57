-- A store keeps what a history says.
use Rattle.std.specs.Prelude.{◌≡◌, ℕ, List}
use Rattle.kube_meta.specs.Page.{Page}
use Rattle.kube_meta.specs.WindowPairs.{AllPair}
use Rattle.kube_meta.specs.declared.limits.Limits.{Limits}
use Rattle.api_calls.specs.Meaning.{Meaning}
use Rattle.api_calls.specs.Item.{Item as LogItem}
use Rattle.api_calls.specs.Objects.{Stored}
use Rattle.api_calls.specs.State.{state}
use Rattle.api_calls.specs.Snap.{Past, floor, window}
use Rattle.record_store.specs.View.{Item, Old, StoreView}

-- a record tells the same of a key as an object, and its bytes are a text of the object
pub record IsSame (text : Stored → List ℕ → Type 0) (x : Item) (e : Stored) : Type 0 where
  pub key : x.key ≡ e.key
  pub number : x.rv ≡ e.number
  pub version : x.at ≡ e.at
  pub birth : x.born ≡ e.born
  pub weight : x.weight ≡ e.weight
  pub bytes : text e x.bytes

-- a superseded record is a superseded object, by the same entry
pub record IsSamePast (text : Stored → List ℕ → Type 0) (o : Old) (p : Past) : Type 0 where
  pub entry : o.by ≡ p.by
  pub object : IsSame text o.item p.object

-- the records are the objects, the window is that of the history, and so is the floor
pub record KeepsHistory (text : Stored → List ℕ → Type 0) (limits : Limits) (m : Meaning) (log : List LogItem) (s : StoreView) : Type 0 where
  pub records : AllPair (IsSame text) s.items (state m log).objects
  pub pasts : AllPair (IsSamePast text) s.window (window limits m log)
  pub known : s.floor ≡ floor limits m log

-- a page of records is one of objects
pub record ArePagesOfOne (text : Stored → List ℕ → Type 0) (p : Page Item) (q : Page Stored) : Type 0 where
  pub snapshot : p.number ≡ q.number
  pub records : AllPair (IsSame text) p.items q.items
  pub behind : p.remaining ≡ q.remaining
