-- Which key an item names: that of the object which it makes, changes or removes.
use Rattle.std.specs.Prelude.{◌≡◌, ◌≢◌, List, Option, None, Some}
use Rattle.kube_meta.specs.Key.{KeyView}
use Rattle.api_calls.specs.Item.{Entry, Create, Replace, Mark, Release, Touch, Delete, SetVersions, Trim, StartMigration, MarkSucceeded, Item, entry, note}
use Rattle.api_calls.specs.Legal.{In}

abbrev pub entry_key : Entry → Option KeyView
entry_key (Create k h w) = Some k
entry_key (Replace k over h w) = Some k
entry_key (Mark k over stamp) = Some k
entry_key (Release k over) = Some k
entry_key (Touch k c) = Some k
entry_key (Delete k) = Some k
entry_key (SetVersions f) = None
entry_key (Trim keep) = None
entry_key (StartMigration name) = None
entry_key MarkSucceeded = None

abbrev pub named_key : Item → Option KeyView
named_key (entry e) = entry_key e
named_key (note x) = None

-- an item doesn't name a key
abbrev pub Spares : KeyView → Item → Type 0
Spares k i = named_key i ≢ Some k

-- one of the items names a key
pub record IsNamed (k : KeyView) (log : List Item) : Type 0 where
  pub item : Item
  pub stands : In item log
  pub names : named_key item ≡ Some k
