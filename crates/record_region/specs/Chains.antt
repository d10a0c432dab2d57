-- How a region holds its pieces: chains of chunks, by a link from each chunk to the next.
use Rattle.std.specs.Prelude.{◌≡◌, ℕ, zero, suc, ◌+◌, ◌*◌, ◌<◌, ◌^◌, List, [], ◌∷◌, ◌++◌, length, take, drop, get_or, Option, Some, None}
use Rattle.record_region.specs.declared.chunks.TheConstants.{CHUNK_BYTES}
use Rattle.record_region.specs.Chunks.{chunks_of}
use Rattle.record_region.specs.Places.{Places, used}

-- the chunk that so many links lead to from a chunk
abbrev pub walk : List ℕ → ℕ → ℕ → ℕ
walk links zero chunk = chunk
walk links (suc steps) chunk = get_or links (walk links steps chunk) 0

-- the bytes of a chunk
abbrev pub chunk_at : List ℕ → ℕ → List ℕ
chunk_at store chunk = take CHUNK_BYTES (drop (CHUNK_BYTES * chunk) store)

-- the bytes of so many chunks of the chain from a chunk
abbrev pub content : List ℕ → List ℕ → ℕ → ℕ → List ℕ
content store links zero first = []
content store links (suc count) first = content store links count first ++ chunk_at store (walk links count first)

-- a chunk is marked with 0 where no piece begins there, and else with one more than the length of its piece
abbrev pub marked : List ℕ → List ℕ → ℕ → ℕ → Option (List ℕ)
marked store links zero first = None
marked store links (suc n) first = Some (take n (content store links (chunks_of n) first))

-- the places from a chunk on, by their marks
abbrev pub places_from : List ℕ → List ℕ → ℕ → List ℕ → Places
places_from store links first [] = []
places_from store links first (mark ∷ marks) = marked store links mark first ∷ places_from store links (suc first) marks

-- the chunks of the chain that a mark stands for
abbrev pub chain_length : ℕ → ℕ
chain_length zero = 0
chain_length (suc n) = chunks_of n

-- whose chain a chunk is in, and how many links lead to it there
pub record Label : Type 0 where
  pub chain : ℕ
  pub steps : ℕ

abbrev pub label : ℕ → ℕ → Label
label chain steps = record { chain = chain; steps = steps }

-- a chunk has one label, so that no two chains share a chunk and no chain meets itself: a piece's chain is called by
-- its first chunk, and the chain of free chunks by the number of all chunks
pub record IsApart (links marks : List ℕ) (head free : ℕ) : Type 0 where
  pub labels : ℕ → Label
  pub free_within : (j : ℕ) → j < free → walk links j head < length marks
  pub free_labels : (j : ℕ) → j < free → labels (walk links j head) ≡ label (length marks) j
  pub piece_within : (i j : ℕ) → j < chain_length (get_or marks i 0) → walk links j i < length marks
  pub piece_labels : (i j : ℕ) → j < chain_length (get_or marks i 0) → labels (walk links j i) ≡ label i j

-- the fields of a region fit each other
pub record IsSoundRegion (store links marks : List ℕ) (head free : ℕ) : Type 0 where
  pub store_length : length store ≡ CHUNK_BYTES * length marks
  pub links_length : length links ≡ length marks
  pub few : length marks < 2 ^ 32
  pub apart : IsApart links marks head free
  pub counted : free + used (places_from store links 0 marks) ≡ length marks
