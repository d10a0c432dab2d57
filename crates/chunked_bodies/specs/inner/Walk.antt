-- For private clauses: what a walk over chunks and lines has found.
use Rattle.std.specs.Prelude.{◌≡◌, ◌≢◌, ℕ, ◌+◌, ◌<◌, ◌≤◌, true, false, Option, Some, None, List, [], ◌∷◌, ◌++◌, length, take, drop, slice_range, All}
use Rattle.std.specs.List.{flat_map}
use Rattle.httparse.specs.Ascii.{space, line_feed}
use Rattle.httparse.specs.Grammar.{ResponseHead, ReadsResponse, print_version, print_reason, print_end, print_field, print_response, Field, LineEnd, ReadsSection}
use Rattle.chunked_bodies.specs.declared.TheConstants.{MOST_FIELDS}
use Rattle.chunked_bodies.specs.declared.chunks.Next.{Next}
use Rattle.chunked_bodies.specs.declared.chunks.Next.TheVariants as next
use Rattle.chunked_bodies.specs.Chunks.{Chunk, print_chunk, IsChunk, Body, ReadsBody, HasNoBody, content}
use Rattle.chunked_bodies.specs.Response.{Pair, at, frames, is_chunked, IsChunkedAt, IsChunkedHead, ChunkedResponse, ReadsChunked, with_length}
use Rattle.chunked_bodies.specs.declared.head.ChunkedHead.{ChunkedHead}

-- a body is at the front of buf, and these are the bytes of its chunks
pub record Joins (buf joined : List ℕ) : Type 0 where
  pub body : Body
  pub rest : List ℕ
  pub reads : ReadsBody buf body rest
  pub is : joined ≡ content body

-- whatever body is at the front of the part, with these bytes before it is the one of the whole
pub record GoesOn (whole part before : List ℕ) : Type 0 where
  pub joins : (joined : List ℕ) → Joins part joined → Joins whole (before ++ joined)
  pub none : HasNoBody part → HasNoBody whole

-- the trailers and their empty line are at the front, or they aren't
abbrev pub HasTrailers : List ℕ → Type 0
HasTrailers buf = (fields : List Field) × (last : LineEnd) × (rest : List ℕ) × ReadsSection buf fields last rest × (length fields ≤ MOST_FIELDS)

abbrev pub HasNoTrailers : List ℕ → Type 0
HasNoTrailers buf = (fields : List Field) (last : LineEnd) (rest : List ℕ) → ReadsSection buf fields last rest → length fields ≤ MOST_FIELDS → ⊥

-- a chunk is at the front, whose bytes stand from start to end
pub record HasChunk (buf : List ℕ) (start end : ℕ) : Type 0 where
  pub chunk : Chunk
  pub is : IsChunk chunk
  pub reads : buf ≡ print_chunk chunk ++ drop (end + 2) buf
  pub ordered : start ≤ end
  pub within : end + 2 ≤ length buf
  pub bytes : slice_range buf start end ≡ chunk.bytes

-- what comes next
abbrev pub Comes : List ℕ → Next → Type 0
Comes buf (next.Chunk start end) = HasChunk buf start end
Comes buf next.End = Joins buf []
Comes buf next.Nothing = HasNoBody buf

-- of the first n fields that one alone, or none, says how the body ends
abbrev pub Found : List Pair → ℕ → Option ℕ → Type 0
Found ps n None = (i : ℕ) → i < n → frames (at ps i) ≡ false
Found ps n (Some k) = (k < n) × (is_chunked (at ps k) ≡ true) × ((i : ℕ) → i < n → i ≢ k → frames (at ps i) ≡ false)

-- no one field alone says that the body is chunked
abbrev pub IsNowhere : List Pair → Type 0
IsNowhere ps = (k : ℕ) → IsChunkedAt ps k → ⊥

-- no line feed stands in it
abbrev pub IsInLine : List ℕ → Type 0
IsInLine line = All (λ b. b ≢ line_feed) line

-- the status line of a head, with its line end
abbrev pub status_line : ResponseHead → List ℕ
status_line h = print_version h.minor ++ space ∷ h.digits ++ print_reason h.reason ++ print_end h.line_end

-- the bytes before the field of the place k, of a head that begins with its status line
abbrev pub before_field : ResponseHead → ℕ → List ℕ
before_field h k = status_line h ++ flat_map print_field (take k h.fields)

-- the lengths are those of a chunked response's head, and the place is its field's
pub record IsHeadAt (bytes : List ℕ) (p : ChunkedHead) (h : ResponseHead) : Type 0 where
  pub reads : ReadsResponse bytes h (drop p.len bytes)
  pub len : p.len ≡ length (print_response h)
  pub chunked : IsChunkedHead h p.coding

-- no head of a chunked response is at the front
abbrev pub HasNoChunkedHead : List ℕ → Type 0
HasNoChunkedHead bytes = (h : ResponseHead) (k : ℕ) (after : List ℕ) → ReadsResponse bytes h after → IsChunkedHead h k → ⊥

-- these are a chunked response with its length
abbrev pub Rewrites : List ℕ → List ℕ → Type 0
Rewrites bytes out = (r : ChunkedResponse) × (rest : List ℕ) × ReadsChunked bytes r rest × (out ≡ with_length r)
