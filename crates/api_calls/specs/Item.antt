-- The items of the server's history: entries, which are accepted writes and have numbers, and notes of migration workers, which have none.
use Rattle.std.specs.Prelude.{ℕ, List, [], ◌∷◌, map, nat_eq, if◌then◌else◌}
use Rattle.kube_meta.specs.Key.{KeyView}
use Rattle.kube_meta.specs.View.{ObjectView}
use Rattle.api_calls.specs.declared.flags.Flags.{Flags}

pub data Entry : Type 0 where
  -- a new hub value under a key, with its weight
  Create : KeyView → ObjectView → ℕ → Entry
  -- another hub value, over the one that stands at a number, with its weight
  Replace : KeyView → ℕ → ObjectView → ℕ → Entry
  -- a deletion stamp, on the value that stands at a number
  Mark : KeyView → ℕ → List ℕ → Entry
  -- the end of a value that has a deletion stamp, which stands at a number
  Release : KeyView → ℕ → Entry
  -- a migration's write, by a claim
  Touch : KeyView → ℕ → Entry
  Delete : KeyView → Entry
  SetVersions : Flags → Entry
  -- the versions at which objects may stand from now on
  Trim : List ℕ → Entry
  -- a new migration of this name
  StartMigration : List ℕ → Entry
  MarkSucceeded : Entry

-- what a worker does to the plan of a migration, each by a claim
pub data Note : Type 0 where
  Claim : ℕ → Note
  RangeDone : ℕ → Note
  GiveBack : ℕ → Note

pub data Item : Type 0 where
  entry : Entry → Item
  note : Note → Item

-- an item with the number of the pass that added it, and how many items that pass had added before
pub record Logged : Type 0 where
  pub by : ℕ
  pub nth : ℕ
  pub item : Item

-- what a list says, whoever added it
abbrev pub items : List Logged → List Item
items log = map (λ l. l.item) log

-- the items of one pass, in order
abbrev pub items_of : ℕ → List Logged → List Logged
items_of p [] = []
items_of p (l ∷ log) = if nat_eq l.by p then l ∷ items_of p log else items_of p log
