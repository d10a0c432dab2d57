-- Rows in blocks of at most 256, for private clauses.
use Rattle.std.specs.Prelude.{◌≡◌, ℕ, ◌+◌, ◌<◌, ◌≤◌, List, [], ◌∷◌, ◌++◌, length}

-- how many rows a block has at most
abbrev pub block_rows : ℕ
block_rows = 256

abbrev pub joined : {X : Type 0} → List (List X) → List X
joined [] = []
joined (b ∷ bs) = b ++ joined bs

abbrev pub IsFull : {X : Type 0} → List X → Type 0
IsFull b = length b ≡ block_rows

-- nothing stands behind a block that isn't full
abbrev pub IsPacked : {X : Type 0} → List (List X) → Type 0
IsPacked [] = Unit {0}
IsPacked (b ∷ bs) = (length b ≤ block_rows) × (length b < block_rows → length (joined bs) ≡ 0) × IsPacked bs

-- a row is lacking in the first block, and nothing stands behind it if more are lacking
abbrev pub IsGapped : {X : Type 0} → List (List X) → Type 0
IsGapped [] = Unit {0}
IsGapped (b ∷ bs) = (length b < block_rows) × (length b + 1 < block_rows → length (joined bs) ≡ 0) × IsPacked bs
