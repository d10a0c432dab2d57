-- What sources and sinks in memory are seen as.
use Rattle.std.specs.Prelude.{◌≡◌, ◌<◌, ◌≤◌, ◌+◌, ◌-◌, ◌++◌, min, ℕ, List, length, take, drop, Option, option_map, Result, MatchResult}
use Rattle.edge_io.specs.Calls.{Calls, answered, failed}
use Rattle.edge_io.specs.Connections.{Origin}

-- the bytes that it held at first, how many of them were read, how many it gives at most at a time, and the number of
-- its connection
pub record SourceState : Type 0 where
  pub bytes : List ℕ
  pub taken : ℕ
  pub piece : ℕ
  pub number : Option ℕ
  pub calls : Calls

abbrev pub left_of : SourceState → List ℕ
left_of s = drop s.taken s.bytes

abbrev pub origin_of : SourceState → Option Origin
origin_of s = option_map (λ n. record { number = n; bytes = s.bytes }) s.number

-- as many bytes as are left, as one piece has and as there is place for
abbrev pub read_count : SourceState → ℕ → ℕ
read_count s place = min (min (length (left_of s)) s.piece) place

-- a read took its bytes, or counted a fault
abbrev pub IsAfterRead : {E : Type 0} → SourceState → SourceState → Result ℕ E → Type 0
IsAfterRead before now result = MatchResult result
    (λ n. now ≡ record { bytes = before.bytes; taken = before.taken + n; piece = before.piece; number = before.number; calls = answered before.calls })
    (λ _. now ≡ record { bytes = before.bytes; taken = before.taken; piece = before.piece; number = before.number; calls = failed before.calls })

-- the bytes that were written, those of them that were handed on, the room for them, and the number of its connection
pub record SinkState : Type 0 where
  pub bytes : List ℕ
  pub flushed : List ℕ
  pub room : ℕ
  pub number : Option ℕ
  pub calls : Calls

-- nothing of a piece that isn't empty fits
abbrev pub IsFull : SinkState → List ℕ → Type 0
IsFull s piece = (0 < length piece) × (s.room ≤ length s.bytes)

-- as many bytes as there are, and as there is room for
abbrev pub write_count : SinkState → List ℕ → ℕ
write_count s piece = min (s.room - length s.bytes) (length piece)

-- a write added its bytes, or counted a fault
abbrev pub IsAfterWrite : {E : Type 0} → SinkState → SinkState → Result ℕ E → List ℕ → Type 0
IsAfterWrite before now result piece = MatchResult result
    (λ n. now ≡ record { bytes = before.bytes ++ take n piece; flushed = before.flushed; room = before.room; number = before.number; calls = answered before.calls })
    (λ _. now ≡ record { bytes = before.bytes; flushed = before.flushed; room = before.room; number = before.number; calls = failed before.calls })

-- a flush handed on all that was written, or counted a fault
abbrev pub IsAfterFlush : {T E : Type 0} → SinkState → SinkState → Result T E → Type 0
IsAfterFlush before now result = MatchResult result
    (λ _. now ≡ record { bytes = before.bytes; flushed = before.bytes; room = before.room; number = before.number; calls = answered before.calls })
    (λ _. now ≡ record { bytes = before.bytes; flushed = before.flushed; room = before.room; number = before.number; calls = failed before.calls })
