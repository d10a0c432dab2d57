-- What one piece of a reader adds to what was read.
use Rattle.std.specs.Prelude.{◌≡◌, ◌<◌, ℕ, Bool, true, false, List, ◌++◌, length, Option}
use Rattle.std.specs.Io.KnownBytes.{Consumes, IsAtEnd}

-- a piece of what the reader had left stands behind what was there; where it tells that there is no more, nothing is left
pub record ReadsPiece (before now : Option (List ℕ)) (had has : List ℕ) (more : Bool) : Type 0 where
  pub piece : List ℕ
  pub added : has ≡ had ++ piece
  pub consumed : Consumes before now piece
  pub filled : more ≡ true → 0 < length piece
  pub end : more ≡ false → IsAtEnd now
