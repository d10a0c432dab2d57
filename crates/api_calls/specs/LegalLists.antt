-- What holds of every legal list, in words.
use Rattle.std.specs.Prelude.{◌≡◌, ◌≢◌, ℕ, pos, ◌≤◌, ◌+◌, ◌&&◌, true, List, [], ◌∷◌, Option, None, Some, Bool, false, MatchBool, nat_eq, if◌then◌else◌}
use Rattle.std.specs.Str.{bytes_eq}
use Rattle.std.specs.declared.cmp.Ordering.TheVariants.{Less}
use Rattle.kube_meta.specs.Key.{KeyView, key_cmp}
use Rattle.kube_meta.specs.View.{ObjectView}
use Rattle.kube_meta.specs.Plan.{Migration, running, covered, runs}
use Rattle.api_calls.specs.Item.{Entry, Create, Replace, Mark, Release, Touch, Delete, SetVersions, Trim, StartMigration, MarkSucceeded, Item, entry, note}
use Rattle.api_calls.specs.Objects.{Stored, find, marked}
use Rattle.api_calls.specs.State.{State, has, effect, number_after}
use Rattle.api_calls.specs.Legal.{Each, IsMarked, HasFinalizer}

-- ---- a sound state

-- objects stand by rising key
abbrev pub IsRising : List Stored → Type 0
IsRising [] = Unit {0}
IsRising (e ∷ es) = Each (λ f. key_cmp e.key f.key ≡ Less) es × IsRising es

abbrev pub AtMostOneRuns : List Migration → Type 0
AtMostOneRuns [] = Unit {0}
AtMostOneRuns (m ∷ ms) = MatchBool (runs m.condition) (running ms ≡ None) (AtMostOneRuns ms)

-- what a running migration has done: its target is the storage version, and each object whose key was handed out, and on which no claim is left, stands there
pub record KeepsPlan (m : Migration) (s : State) : Type 0 where
  pub target : m.target ≡ s.flags.storage
  pub done : Each (λ e. covered s.plan e.key ≡ true → e.at ≡ m.target) s.objects

pub record IsSoundState (s : State) : Type 0 where
  pub rising : IsRising s.objects
  pub one : AtMostOneRuns s.migrations
  -- the storage version and every object's are in the stored list
  pub storage : has s.stored s.flags.storage ≡ true
  pub stored : Each (λ e. has s.stored e.at ≡ true) s.objects
  pub plan : (m : Migration) → running s.migrations ≡ Some m → KeepsPlan m s

-- an object stands in a state
abbrev pub Holds : State → Stored → Type 0
Holds s e = find e.key s.objects ≡ Some e

-- a value that is being deleted has a finalizer
abbrev pub MarkedAreHeld : State → Type 0
MarkedAreHeld s = Each (λ e. IsMarked e.h → HasFinalizer e.h) s.objects

-- a generation counts from 1, and is at most the revision
pub record IsCounted (revision : ℕ) (h : ObjectView) : Type 0 where
  pub number : ℕ
  pub is : h.meta.generation ≡ pos number
  pub least : 1 ≤ number
  pub most : number ≤ revision

-- each object's generation counts so
abbrev pub AreCounted : ℕ → State → Type 0
AreCounted revision s = Each (λ e. IsCounted revision e.h) s.objects

-- ---- values that stay

-- an entry that gives a key a value, in the state before it
abbrev pub Writes : State → KeyView → ObjectView → Entry → Type 0
Writes s k h (Create j g w) = (j ≡ k) × (g ≡ h)
Writes s k h (Replace j over g w) = (j ≡ k) × (g ≡ h)
Writes s k h (Mark j over stamp) = (j ≡ k) × (e : Stored) × (find k s.objects ≡ Some e) × (marked stamp e.h ≡ h)
Writes s k h (Release j over) = ⊥
Writes s k h (Touch j c) = ⊥
Writes s k h (Delete j) = ⊥
Writes s k h (SetVersions f) = ⊥
Writes s k h (Trim keep) = ⊥
Writes s k h (StartMigration name) = ⊥
Writes s k h MarkSucceeded = ⊥

-- an item is no replace, mark, release or delete of a key
abbrev pub entry_leaves : KeyView → Entry → Type 0
entry_leaves k (Create j h w) = Unit {0}
entry_leaves k (Replace j over h w) = k ≢ j
entry_leaves k (Mark j over stamp) = k ≢ j
entry_leaves k (Release j over) = k ≢ j
entry_leaves k (Touch j c) = Unit {0}
entry_leaves k (Delete j) = k ≢ j
entry_leaves k (SetVersions f) = Unit {0}
entry_leaves k (Trim keep) = Unit {0}
entry_leaves k (StartMigration name) = Unit {0}
entry_leaves k MarkSucceeded = Unit {0}

abbrev pub Leaves : KeyView → Item → Type 0
Leaves k (entry e) = entry_leaves k e
Leaves k (note x) = Unit {0}

-- ---- the storage version

-- the storage version after an entry
abbrev pub storage_after : ℕ → Entry → ℕ
storage_after v (Create k h w) = v
storage_after v (Replace k over h w) = v
storage_after v (Mark k over stamp) = v
storage_after v (Release k over) = v
storage_after v (Touch k c) = v
storage_after v (Delete k) = v
storage_after v (SetVersions f) = f.storage
storage_after v (Trim keep) = v
storage_after v (StartMigration name) = v
storage_after v MarkSucceeded = v

-- the storage version is still this one after an item
abbrev pub KeepsStorage : ℕ → Item → Type 0
KeepsStorage v (entry e) = storage_after v e ≡ v
KeepsStorage v (note x) = Unit {0}

-- ---- touches

abbrev pub is_touch : Item → Bool
is_touch (entry (Create k h w)) = false
is_touch (entry (Replace k over h w)) = false
is_touch (entry (Mark k over stamp)) = false
is_touch (entry (Release k over)) = false
is_touch (entry (Touch k c)) = true
is_touch (entry (Delete k)) = false
is_touch (entry (SetVersions f)) = false
is_touch (entry (Trim keep)) = false
is_touch (entry (StartMigration name)) = false
is_touch (entry MarkSucceeded) = false
is_touch (note x) = false

-- the migration of a name runs
abbrev pub is_named : List ℕ → Option Migration → Bool
is_named name None = false
is_named name (Some m) = bytes_eq m.name name

-- the touches of the migration of a name, among the items from a state on
abbrev pub touches_of : List ℕ → ℕ → State → List Item → ℕ
touches_of name n s [] = 0
touches_of name n s (i ∷ log) =
    (if is_touch i && is_named name (running s.migrations) then 1 else 0) + touches_of name (number_after n i) (effect n i s) log

-- how many objects stand at another version
abbrev pub away : ℕ → List Stored → ℕ
away v [] = 0
away v (e ∷ es) = (if nat_eq e.at v then 0 else 1) + away v es
