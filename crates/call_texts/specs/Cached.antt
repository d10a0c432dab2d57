-- What is known at a list of the texts that a cache holds.
use Rattle.std.specs.Prelude.{◌≡◌, ◌≤◌, ℕ, List, length, take}
use Rattle.api_calls.specs.Item.{Item}
use Rattle.api_calls.specs.Legal.{In}
use Rattle.api_calls.specs.Meaning.{Meaning}
use Rattle.api_calls.specs.Objects.{Stored}
use Rattle.api_calls.specs.Replies.{IsShown}
use Rattle.api_calls.specs.State.{state}
use Rattle.api_core.specs.Keeps.{KeepsObject}
use Rattle.api_core.specs.Prepared.{seen_item}
use Rattle.api_core.specs.declared.seen.Seen.{Seen}
use Rattle.form_cache.specs.Forms.{Form}
use Rattle.form_cache.specs.Laws.{Each}
use Rattle.form_cache.specs.Limits.{longest_text}

-- an object stood after a beginning of a list
pub record Stood (m : Meaning) (log : List Item) (e : Stored) : Type 0 where
  pub until : ℕ
  pub there : In e (state m (take until log)).objects

-- what is seen keeps an object that stood so
pub record WasSeen (m : Meaning) (log : List Item) (s : Seen) : Type 0 where
  pub object : Stored
  pub stood : Stood m log object
  pub keeps : KeepsObject m (seen_item s) object

-- A form's text shows, at the form's version, the object that stood under the form's key at its number. A number names one
-- object, so this lasts as the list goes on.
pub record IsCached (m : Meaning) (boot : ℕ) (log : List Item) (f : Form) : Type 0 where
  pub object : Stored
  pub stood : Stood m log object
  pub key : object.key ≡ f.key
  pub number : object.number ≡ f.number
  pub shows : IsShown m boot f.version object.h object.number object.born f.text
  pub short : length f.text ≤ longest_text

abbrev pub AreCached : Meaning → ℕ → List Item → List Form → Type 0
AreCached m boot log fs = Each (IsCached m boot log) fs
