-- Which versions a definition has.
use Rattle.std.specs.Prelude.{◌≡◌, ◌<◌, ℕ, List}
use Rattle.api_calls.specs.Meaning.{Meaning}

-- there is a version of the name
pub record HasVersion (m : Meaning) (name : List ℕ) : Type 0 where
  pub place : ℕ
  pub known : place < m.count
  pub named : m.name place ≡ name
