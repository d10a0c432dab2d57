-- How a turn at a list may end: with a decided end and the item that it enters, or with a free end, which has a cause and enters nothing.
use Rattle.std.specs.Prelude.{◌≡◌, ℕ, List, [], ◌∷◌, ◌++◌, Option, None, Some}
use Rattle.kube_meta.specs.Key.{KeyView}
use Rattle.kube_meta.specs.declared.limits.Room.{Room}
use Rattle.api_calls.specs.declared.flags.Flags.{Flags}
use Rattle.api_calls.specs.Item.{Item}

-- of a create, a replace, a release or a delete
pub data WriteEnd : Type 0 where
  -- entered at a number; the number of the object's creation
  done : ℕ → ℕ → WriteEnd
  -- the object stays, with a deletion stamp: its number, and the number of its creation
  kept : ℕ → ℕ → WriteEnd
  -- the new value is the one that stands at this number; the number of its creation
  same : ℕ → ℕ → WriteEnd
  -- the version isn't served
  unserved : WriteEnd
  -- the key is there; it isn't there; it is there at another number
  present : WriteEnd
  gone : WriteEnd
  newer : ℕ → WriteEnd
  -- a finalizer would be added to an object that is being deleted
  forbidden : WriteEnd
  -- the value was prepared for another version than the storage version now
  storage_moved : ℕ → WriteEnd
  full : Room → WriteEnd

-- of a change of the flags, with the stored list afterwards
pub data SetEnd : Type 0 where
  set : List ℕ → SetEnd
  unchanged : List ℕ → SetEnd

-- of a trim of the stored list, with flags and stored list afterwards
pub data TrimEnd : Type 0 where
  trimmed : Flags → List ℕ → TrimEnd
  untrimmed : Flags → List ℕ → TrimEnd
  -- a version that isn't in the stored list
  unknown : ℕ → TrimEnd
  -- a version that isn't kept: the storage version, or that of the first object that stands there
  still_stored : ℕ → Option KeyView → TrimEnd

-- of the start of a migration
pub data StartEnd : Type 0 where
  -- the target
  started : ℕ → StartEnd
  taken : StartEnd
  -- the migration of this name runs
  busy : List ℕ → StartEnd
  no_room : Room → StartEnd

-- of a turn of a worker
pub data TurnEnd : Type 0 where
  idle : TurnEnd
  claimed : TurnEnd
  -- the first object of the claim's span that stands elsewhere, and its number
  prepare : KeyView → ℕ → TurnEnd
  touched : ℕ → TurnEnd
  missed : TurnEnd
  range_done : TurnEnd
  finished : ℕ → TurnEnd

-- ---- decisions

-- what is decided: the answer, and the item that is entered
pub record Decision (A : Type 0) : Type 0 where
  pub answer : A
  pub item : Option Item

abbrev pub says : {A : Type 0} → A → Decision A
says a = record { answer = a; item = None }

abbrev pub enters : {A : Type 0} → A → Item → Decision A
enters a i = record { answer = a; item = Some i }

-- a list after a turn
abbrev pub grown : List Item → Option Item → List Item
grown log None = log
grown log (Some i) = log ++ i ∷ []

-- A bound end is decided. A free end isn't: it has a cause.
pub data EndCause : Type 1 where
  bound : EndCause
  free : Type 0 → EndCause

-- a turn at a list ended with this answer, and something stands for the list afterwards
abbrev pub EndsAsDecided : {A : Type 0} → EndCause → (List Item → Type 0) → List Item → Decision A → A → Type 0
EndsAsDecided bound stands log d a = (a ≡ d.answer) × stands (grown log d.item)
EndsAsDecided (free why) stands log d a = why × stands log

-- the same where the answer and the item are any that D allows
abbrev pub EndsAsAllowed : {A : Type 0} → EndCause → (List Item → Type 0) → List Item → (A → Option Item → Type 0) → A → Type 0
EndsAsAllowed bound stands log D a = (i : Option Item) × D a i × stands (grown log i)
EndsAsAllowed (free why) stands log D a = why × stands log
