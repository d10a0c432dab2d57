-- For private clauses: what a turn that changes the flags or the stored list tells.
use Rattle.std.specs.Prelude.{◌≡◌, ◌<◌, ℕ, Bool, true, false, List}
use Rattle.api_calls.specs.Calls.{Server}
use Rattle.api_calls.specs.Ends.{SetEnd, set, unchanged, TrimEnd, trimmed}
use Rattle.api_calls.specs.Item.{Logged, items}
use Rattle.api_calls.specs.Replies.{code_ok, said, set_answer}
use Rattle.api_calls.specs.Settings.{set_decision, trim_decision}
use Rattle.api_calls.specs.State.{state}
use Rattle.api_calls.specs.Versions.{IsStoredList, versions_of}
use Rattle.api_calls.specs.declared.flags.Flags.{Flags}
use Rattle.api_calls.specs.declared.flags.StoredList.{StoredList}
use Rattle.turn_cell.specs.declared.view.View.{View}
use Rattle.shared_api.specs.inner.Turning.{Writes}
use Rattle.setting_texts.specs.Changing.{HasVersion, ShowsChange}

abbrev pub is_set : SetEnd → Bool
is_set (set stored) = true
is_set (unchanged stored) = false

-- a turn that set flags, and what the stored list is afterwards: the answer shows both
pub record Sets {B : Type 0} (s : Server) (v z : View B) (f : Flags) (stored : StoredList) : Type 0 where
  pub log : List Logged
  pub writes : Writes s v z log (set_decision (state s.meaning (items log)) f).item
  pub shown : set_answer s.meaning f (set_decision (state s.meaning (items log)) f).answer ≡ said code_ok (s.meaning.shown f (versions_of stored))
  pub is_list : IsStoredList s.meaning.count stored

-- a turn that trimmed the stored list to the versions that are kept, and what flags and stored list are afterwards
pub record Trims {B : Type 0} (s : Server) (v z : View B) (keep : List ℕ) (end : TrimEnd) (f : Flags) (stored : StoredList) : Type 0 where
  pub log : List Logged
  pub writes : Writes s v z log (trim_decision (state s.meaning (items log)) keep).item
  pub ended : end ≡ (trim_decision (state s.meaning (items log)) keep).answer
  pub shows : ShowsChange end f (versions_of stored)
  pub held : HasVersion s.meaning.count end
  pub storage : f.storage < s.meaning.count
  pub is_list : IsStoredList s.meaning.count stored
