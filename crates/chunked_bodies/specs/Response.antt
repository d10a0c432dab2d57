-- A response whose body is chunked, and the same response with its length (RFC 9112, sections 4, 6 and 7.1.3).
use Rattle.std.specs.Prelude.{◌≡◌, ◌≢◌, ℕ, ◌+◌, ◌<◌, ◌≤◌, Bool, true, false, ◌&&◌, ◌||◌, List, [], ◌∷◌, ◌++◌, length, take, drop, map, get_or, codes, decimal}
use Rattle.std.specs.Str.{str_eq_ignore_ascii_case}
use Rattle.httparse.specs.Grammar.{ResponseHead, ReadsResponse, print_response, Field, crlf}
use Rattle.httparse.specs.Spans.{name_and_value}
use Rattle.chunked_bodies.specs.declared.TheConstants.{MOST_FIELDS}
use Rattle.chunked_bodies.specs.Chunks.{Body, ReadsBody, content}

-- a field's name, and its value without the white space around it
abbrev pub Pair : Type 0
Pair = List ℕ × List ℕ

-- names have any case of letters
abbrev pub tells_coding : Pair → Bool
tells_coding p = str_eq_ignore_ascii_case p.0 (codes "transfer-encoding")

abbrev pub tells_length : Pair → Bool
tells_length p = str_eq_ignore_ascii_case p.0 (codes "content-length")

-- the field says how the body ends
unfoldable pub frames : Pair → Bool
frames p = tells_coding p || tells_length p

-- it says that the body is chunked, and has no other coding
unfoldable pub is_chunked : Pair → Bool
is_chunked p = tells_coding p && str_eq_ignore_ascii_case p.1 (codes "chunked")

-- the field of the place k
abbrev pub at : List Pair → ℕ → Pair
at ps k = get_or ps k ([], [])

-- the field of the place k says so, and no other says how the body ends
pub record IsChunkedAt (ps : List Pair) (k : ℕ) : Type 0 where
  pub within : k < length ps
  pub chunked : is_chunked (at ps k) ≡ true
  pub only : (i : ℕ) → i < length ps → i ≢ k → frames (at ps i) ≡ false

-- a head of HTTP/1.1 without an empty line before it, whose field of the place k says so
pub record IsChunkedHead (h : ResponseHead) (k : ℕ) : Type 0 where
  pub begins : h.blank ≡ []
  pub minor : h.minor ≡ 1
  pub few : length h.fields ≤ MOST_FIELDS
  pub coding : IsChunkedAt (map name_and_value h.fields) k

-- a response with the place of the field that says so
pub record ChunkedResponse : Type 0 where
  pub head : ResponseHead
  pub coding : ℕ
  pub body : Body

-- bytes are that response and then rest
pub record ReadsChunked (bytes : List ℕ) (r : ChunkedResponse) (rest : List ℕ) : Type 0 where
  pub after : List ℕ
  pub reads : ReadsResponse bytes r.head after
  pub chunked : IsChunkedHead r.head r.coding
  pub body : ReadsBody after r.body rest

-- Content-Length: n
abbrev pub length_line : ℕ → Field
length_line n = record { name = codes "Content-Length"; raw = codes " " ++ decimal n; end = crlf }

-- the head with a length in that field's place
abbrev pub head_with_length : ResponseHead → ℕ → ℕ → ResponseHead
head_with_length h k n = record h { fields = take k h.fields ++ length_line n ∷ drop (k + 1) h.fields }

-- the same response with its length: the bytes of its chunks stand behind the head
abbrev pub with_length : ChunkedResponse → List ℕ
with_length r = print_response (head_with_length r.head r.coding (length (content r.body))) ++ content r.body

-- no chunked response is at the front
abbrev pub HasNoChunked : List ℕ → Type 0
HasNoChunked bytes = (r : ChunkedResponse) (rest : List ℕ) → ReadsChunked bytes r rest → ⊥

-- What is handed on of bytes: a chunked response with its length, and nothing behind it; and anything else as it is.
pub data HandsOn (bytes : List ℕ) : List ℕ → Type 0 where
  joined : (r : ChunkedResponse) (rest : List ℕ) → ReadsChunked bytes r rest → HandsOn bytes (with_length r)
  other : HasNoChunked bytes → HandsOn bytes bytes

-- What is handed on of the front of a response whose reading was given up: where its head is one of a chunked response, that head with the
-- length of what stands behind it, and that as it stands; and anything else as it is.
pub data HandsOnFront (front : List ℕ) : List ℕ → Type 0 where
  counted : (h : ResponseHead) (k : ℕ) (after : List ℕ) → ReadsResponse front h after → IsChunkedHead h k
      → HandsOnFront front (print_response (head_with_length h k (length after)) ++ after)
  uncounted : ((h : ResponseHead) (k : ℕ) (after : List ℕ) → ReadsResponse front h after → IsChunkedHead h k → ⊥) → HandsOnFront front front
