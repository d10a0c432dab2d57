-- What a region is seen as: a place for each chunk, with the bytes of the piece that begins there.
use Rattle.std.specs.Prelude.{ℕ, ◌+◌, ◌-◌, List, [], ◌∷◌, length, slice_index_or, Option, Some, None, IsSome}
use Rattle.record_region.specs.Chunks.{chunks_of}

-- for each chunk the piece that begins there, if one does
abbrev pub Places : Type 0
Places = List (Option (List ℕ))

-- the piece that begins at a chunk
abbrev pub piece_at : Places → ℕ → Option (List ℕ)
piece_at places chunk = slice_index_or places chunk None

-- the bytes of a piece, and no bytes where there is none
abbrev pub bytes_in : Option (List ℕ) → List ℕ
bytes_in None = []
bytes_in (Some bytes) = bytes

-- a piece begins at a chunk
abbrev pub IsLive : Places → ℕ → Type 0
IsLive places chunk = IsSome (piece_at places chunk)

-- the bytes of the piece that begins at a chunk
abbrev pub bytes_at : Places → ℕ → List ℕ
bytes_at places chunk = bytes_in (piece_at places chunk)

-- the chunks that a piece takes
abbrev pub chunks_in : Option (List ℕ) → ℕ
chunks_in None = 0
chunks_in (Some bytes) = chunks_of (length bytes)

-- the chunks that the live pieces take, each its own
abbrev pub used : Places → ℕ
used [] = 0
used (place ∷ places) = chunks_in place + used places

-- the chunks that no live piece takes
abbrev pub spare : Places → ℕ
spare places = length places - used places
