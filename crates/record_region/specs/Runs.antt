-- What a list of calls makes of a region.
use Rattle.std.specs.Prelude.{◌≡◌, ℕ, ◌<◌, ◌≤◌, List, [], ◌∷◌, length, Option, Some, None, replicate, slice_set, nat_eq, if◌then◌else◌}
use Rattle.record_region.specs.Chunks.{chunks_of}
use Rattle.record_region.specs.Places.{Places, piece_at, IsLive, spare}

-- a put whose piece begins at a chunk, a put that was refused, and a free of the piece that begins at a chunk
pub data Call : Type 0 where
  Put : ℕ → List ℕ → Call
  Refused : List ℕ → Call
  Free : ℕ → Call

-- a region answers a call so
abbrev pub RegionAnswers : Places → Call → Type 0
RegionAnswers places (Put first bytes) = (first < length places) × (piece_at places first ≡ None) × (chunks_of (length bytes) ≤ spare places)
RegionAnswers places (Refused bytes) = spare places < chunks_of (length bytes)
RegionAnswers places (Free first) = IsLive places first

abbrev pub called : Places → Call → Places
called places (Put first bytes) = slice_set places first (Some bytes)
called places (Refused bytes) = places
called places (Free first) = slice_set places first None

-- a region answers the calls so, one after another
abbrev pub AnswersAll : Places → List Call → Type 0
AnswersAll places [] = Unit {0}
AnswersAll places (c ∷ cs) = RegionAnswers places c × AnswersAll (called places c) cs

abbrev pub called_all : Places → List Call → Places
called_all places [] = places
called_all places (c ∷ cs) = called_all (called places c) cs

-- a region of so many chunks, all free
abbrev pub opened : ℕ → Places
opened chunks = replicate chunks None

-- the bytes that were last put at a chunk and not freed since, and what was there before where no call is of that chunk
abbrev pub put_last : ℕ → Option (List ℕ) → List Call → Option (List ℕ)
put_last chunk before [] = before
put_last chunk before (Put first bytes ∷ cs) = put_last chunk (if nat_eq first chunk then Some bytes else before) cs
put_last chunk before (Refused bytes ∷ cs) = put_last chunk before cs
put_last chunk before (Free first ∷ cs) = put_last chunk (if nat_eq first chunk then None else before) cs
