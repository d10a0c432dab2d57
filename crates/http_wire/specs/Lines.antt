-- Where a head may end: at an empty line behind a line that isn't empty.
use Rattle.std.specs.Prelude.{◌≡◌, ◌≢◌, ℕ, ◌<◌, ◌≤◌, List, [], ◌∷◌, ◌++◌, length, take}
use Rattle.httparse.specs.Ascii.{carriage_return, line_feed}
use Rattle.httparse.specs.Grammar.{LineEnd, print_end}

-- the byte stands in no line end
abbrev pub IsInside : ℕ → Type 0
IsInside byte = (byte ≢ carriage_return) × (byte ≢ line_feed)

-- b ends in these line ends, and a byte of a line stands before them
abbrev pub EndsIn : List ℕ → List ℕ → Type 0
EndsIn ends b = (front : List ℕ) × (byte : ℕ) × IsInside byte × (b ≡ (front ++ byte ∷ []) ++ ends)

-- b ends in an empty line behind a line that isn't empty
unfoldable pub EndsInEmptyLine : List ℕ → Type 0
EndsInEmptyLine b = (first : LineEnd) × (second : LineEnd) × EndsIn (print_end first ++ print_end second) b

-- such an empty line ends behind the first `from` bytes of b
abbrev pub HasEmptyLine : ℕ → List ℕ → Type 0
HasEmptyLine from b = (n : ℕ) × (from < n) × (n ≤ length b) × EndsInEmptyLine (take n b)
