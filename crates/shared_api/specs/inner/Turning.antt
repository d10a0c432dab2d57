-- For private clauses: what one turn of a call tells.
use Rattle.std.specs.Prelude.{◌≡◌, ◌≤◌, ◌^◌, ◌++◌, Bool, true, false, List, Option, None, Some, Result, IfOk}
use Rattle.kj_value.specs.declared.error.NoMemory.{NoMemory}
use Rattle.kube_meta.specs.Key.{KeyView}
use Rattle.api_calls.specs.Calls.{Server}
use Rattle.api_calls.specs.Item.{Logged, Item, items}
use Rattle.api_calls.specs.Legal.{IsLegal}
use Rattle.api_calls.specs.State.{revision, state}
use Rattle.api_calls.specs.Versions.{AreFlags, IsStoredList, versions_of}
use Rattle.api_calls.specs.declared.flags.Flags.{Flags}
use Rattle.api_calls.specs.declared.flags.StoredList.{StoredList}
use Rattle.api_core.specs.Prepared.{Sees}
use Rattle.api_core.specs.declared.seen.Peeked.{Peeked}
use Rattle.turn_cell.specs.declared.view.View.{View}
use Rattle.turn_cell.specs.declared.view.Stage.TheVariants.{Rest}
use Rattle.turn_cell.specs.Views.{set_stage}
use Rattle.turn_cell.specs.Turns.{Turned, addition}

-- a turn that added nothing, at a legal list that has room for an item
pub record Reads {B : Type 0} (s : Server) (v z : View B) (log : List Logged) : Type 0 where
  pub turned : Turned v z log None
  pub legal : IsLegal s.meaning s.limits log
  pub few : revision (items log) ≤ 2 ^ 61

-- a look at a key
pub record Looks {B : Type 0} (s : Server) (v z : View B) (k : KeyView) (r : Result Peeked NoMemory) : Type 0 where
  pub log : List Logged
  pub reads : Reads s v z log
  pub flags : IfOk r (λ p. AreFlags s.meaning.count p.flags)
  pub sees : IfOk r (λ p. Sees s.meaning (items log) k p)

-- a look at the flags and the stored versions
pub record Settles {B : Type 0} (s : Server) (v z : View B) (f : Flags) (stored : StoredList) : Type 0 where
  pub log : List Logged
  pub reads : Reads s v z log
  pub flags : f ≡ (state s.meaning (items log)).flags
  pub listed : versions_of stored ≡ (state s.meaning (items log)).stored
  pub are_flags : AreFlags s.meaning.count f
  pub is_list : IsStoredList s.meaning.count stored

-- ---- a turn that may enter an item

abbrev pub item_if : Bool → Item → Option Item
item_if false i = None
item_if true i = Some i

-- the pass w, which held the turn, gave it back with the item, if any, and is z
abbrev pub Closes : {B : Type 0} → Option Item → View B → View B → Type 0
Closes i w z = z ≡ set_stage w (w.seen ++ addition w w.seen i) Rest

-- a turn that added the item, if any, at a legal list that has room for one; the list is legal afterwards
pub record Writes {B : Type 0} (s : Server) (v z : View B) (log : List Logged) (i : Option Item) : Type 0 where
  pub turned : Turned v z log i
  pub legal : IsLegal s.meaning s.limits log
  pub after : IsLegal s.meaning s.limits z.seen
  pub few : revision (items log) ≤ 2 ^ 61
