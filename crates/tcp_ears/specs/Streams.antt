-- What is read of a stream.
use Rattle.std.specs.Prelude.{◌≡◌, ◌<◌, ℕ, List, length, take, Option}
use Rattle.std.specs.Io.KnownBytes.{Consumes, IsAtEnd}

-- so many bytes at the front of `into` are what the stream gave, and where that is none, nothing is left
abbrev pub Gives : Option (List ℕ) → Option (List ℕ) → List ℕ → ℕ → Type 0
Gives before now into n = Consumes before now (take n into) × (n ≡ 0 → 0 < length into → IsAtEnd now)
