-- When a core stands for a list of the history: it is the present of the one-thread server whose items these are.
use Rattle.std.specs.Prelude.{◌≡◌, ◌≤◌, List}
use Rattle.kube_meta.specs.WindowPairs.{AllPair}
use Rattle.api_calls.specs.Meaning.{Meaning}
use Rattle.api_calls.specs.Item.{Item}
use Rattle.api_calls.specs.State.{State, revision, state}
use Rattle.api_calls.specs.Legal.{legal}
use Rattle.api_calls.specs.Snap.{floor, window}
use Rattle.api_core.specs.View.{CoreView}
use Rattle.api_core.specs.Keeps.{KeepsObject, KeepsPast}

-- flags, stored list, migrations, plan and records are those of a state
pub record IsPresent (m : Meaning) (c : CoreView) (s : State) : Type 0 where
  pub flags : c.flags ≡ s.flags
  pub stored : c.stored ≡ s.stored
  pub migrations : c.migrations.items ≡ s.migrations
  pub plan : c.migrations.plan ≡ s.plan
  pub records : AllPair (KeepsObject m) c.store.items s.objects

-- the window has a record of each object that was superseded by an entry above the list's floor, in their order, and nothing else
pub record IsPast (m : Meaning) (c : CoreView) (log : List Item) : Type 0 where
  pub window : AllPair (KeepsPast m) c.store.window (window c.limits m log)
  pub floor : c.store.floor ≡ floor c.limits m log

-- the parts have the limits of the whole
pub record HasLimits (c : CoreView) : Type 0 where
  pub store : c.store.limits ≡ c.limits
  pub migrations : c.migrations.limit ≡ c.limits.migrations

-- That every object whose key was handed out, and on which no claim is left, stands at the running migration's target is a law of legal lists.
pub record Stands (m : Meaning) (c : CoreView) (log : List Item) : Type 0 where
  pub legal : legal m c.limits log
  pub limits : HasLimits c
  pub revision : c.revision ≡ revision log
  pub dated : c.store.last ≤ c.revision
  pub present : IsPresent m c (state m log)
  pub past : IsPast m c log
