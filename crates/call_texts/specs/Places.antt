-- The place of a version, by its name.
use Rattle.std.specs.Prelude.{◌≡◌, ◌≢◌, ◌<◌, ◌≤◌, ℕ, List}
use Rattle.api_calls.specs.Meaning.{Meaning}

-- the version at the place has the name; or no version has it, and none has the place
pub record IsPlace (m : Meaning) (name : List ℕ) (v : ℕ) : Type 0 where
  pub named : v < m.count → m.name v ≡ name
  pub unknown : m.count ≤ v → (w : ℕ) → w < m.count → m.name w ≢ name
