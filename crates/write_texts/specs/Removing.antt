-- What was seen of an object that is to be removed or marked.
use Rattle.std.specs.Prelude.{◌≡◌, ℕ, ◌+◌, List, Some, IsTrue}
use Rattle.kube_meta.specs.Key.{KeyView}
use Rattle.kube_meta.specs.View.{ObjectView}
use Rattle.api_calls.specs.Item.{Item}
use Rattle.api_calls.specs.Meaning.{Meaning}
use Rattle.api_calls.specs.Objects.{Stored, find}
use Rattle.api_calls.specs.State.{state}
use Rattle.api_core.specs.Prepared.{Marking}
use Rattle.api_core.specs.declared.seen.Prepared.{Prepared}

-- the object of a key stood at a number, and this was known of it where it is known what values mean
pub record WasAt (m : Meaning) (log : List Item) (k : KeyView) (number : ℕ) (P : Stored → Type 0) : Type 0 where
  pub object : Stored
  pub there : find k (state m log).objects ≡ Some object
  pub at_number : object.number ≡ number
  pub known : IsTrue m.honest → P object

-- what was prepared is the value of the object with a deletion stamp, which had a finalizer and no stamp
pub record IsToMark (m : Meaning) (log : List Item) (k : KeyView) (number : ℕ) (p : Prepared) (h : ObjectView) (stamp : List ℕ) : Type 0 where
  pub was : WasAt m log k number (Marking h stamp)
  pub key : p.key ≡ k
  pub weight : p.weight ≡ was.object.weight
