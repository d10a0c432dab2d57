-- A body of chunks (RFC 9112, section 7.1): each chunk a line with its size, its bytes and a line end; then a line of size 0, the
-- trailers, and an empty line.
use Rattle.std.specs.Prelude.{◌≡◌, ℕ, ◌<◌, ◌≤◌, All, List, ◌++◌, length}
use Rattle.std.specs.List.{flat_map, AllByRecursion}
use Rattle.httparse.specs.Ascii.{crlf_bytes}
use Rattle.httparse.specs.Grammar.{ChunkLine, print_chunk_line, IsChunkLine, chunk_size, Field, LineEnd, IsField, print_section}
use Rattle.chunked_bodies.specs.declared.TheConstants.{MOST_FIELDS}

-- chunk = chunk-size [ chunk-ext ] CRLF chunk-data CRLF
pub record Chunk : Type 0 where
  pub line : ChunkLine
  pub bytes : List ℕ

abbrev pub print_chunk : Chunk → List ℕ
print_chunk c = print_chunk_line c.line ++ (c.bytes ++ crlf_bytes)

-- the line gives the number of the bytes, and there is one at least
pub record IsChunk (c : Chunk) : Type 0 where
  pub line : IsChunkLine c.line
  pub sized : chunk_size c.line ≡ length c.bytes
  pub filled : 0 < length c.bytes

-- chunked-body = *chunk last-chunk trailer-section CRLF
pub record Body : Type 0 where
  pub chunks : List Chunk
  pub last : ChunkLine
  pub trailers : List Field
  pub end : LineEnd

abbrev pub print_body : Body → List ℕ
print_body b = flat_map print_chunk b.chunks ++ (print_chunk_line b.last ++ print_section b.trailers b.end)

pub record IsBody (b : Body) : Type 0 where
  pub chunks : AllByRecursion IsChunk b.chunks
  pub last : IsChunkLine b.last
  pub ends : chunk_size b.last ≡ 0
  pub trailers : All IsField b.trailers
  pub few : length b.trailers ≤ MOST_FIELDS

-- the bytes of all the chunks
abbrev pub content : Body → List ℕ
content b = flat_map (λ c. c.bytes) b.chunks

-- buf is that body and then rest
abbrev pub ReadsBody : List ℕ → Body → List ℕ → Type 0
ReadsBody buf b rest = IsBody b × (buf ≡ print_body b ++ rest)

-- no body of chunks is at the front of buf
abbrev pub HasNoBody : List ℕ → Type 0
HasNoBody buf = (b : Body) (rest : List ℕ) → ReadsBody buf b rest → ⊥
