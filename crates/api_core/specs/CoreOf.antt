-- What a core shows to contracts: its definition, and the rest as a view.
use Rattle.std.specs.Prelude.{◌≡◌, ℕ, ◌≤◌, List}
use Rattle.api_calls.specs.Meaning.{Meaning}
use Rattle.api_calls.specs.Item.{Item}
use Rattle.api_calls.specs.Versions.{AreFlags, IsStoredList}
use Rattle.api_calls.specs.declared.flags.Flags.{Flags}
use Rattle.api_calls.specs.declared.flags.StoredList.{StoredList}
use Rattle.api_core.specs.View.{CoreView}
use Rattle.api_core.specs.Stands.{Stands}

pub record CoreOf (V : Type 0) : Type 0 where
  pub versions : V
  pub view : CoreView

-- a core stands for a list, by what its definition means
abbrev pub StandsFor : {V : Type 0} → (V → Meaning) → CoreOf V → List Item → Type 0
StandsFor meaning c log = Stands (meaning c.versions) c.view log

-- the definition, the limits and the boot number stay
pub record SameBase {V : Type 0} (c d : CoreOf V) : Type 0 where
  pub versions : d.versions ≡ c.versions
  pub limits : d.view.limits ≡ c.view.limits
  pub boot : d.view.boot ≡ c.view.boot

-- for private clauses: the last change isn't numbered above the revision, which is 1 at first; flags and stored list are of known versions
pub record IsCore (count last revision : ℕ) (flags : Flags) (stored : StoredList) : Type 0 where
  pub dated : last ≤ revision
  pub begun : 1 ≤ revision
  pub are_flags : AreFlags count flags
  pub is_list : IsStoredList count stored
