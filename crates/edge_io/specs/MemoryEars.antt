-- What connections in memory are seen as.
use Rattle.std.specs.Prelude.{◌≡◌, ◌⊎◌, ◌+◌, ◌++◌, ℕ, List, [], ◌∷◌, length, Some}
use Rattle.edge_io.specs.Calls.{Calls, IsListed, answered}
use Rattle.edge_io.specs.Connections.{Origin, Ending}
use Rattle.edge_io.specs.Memory.{SourceState, SinkState, origin_of}

-- the two parts of a connection
pub record Parts : Type 0 where
  pub source : SourceState
  pub sink : SinkState

-- what a closed connection with these parts tells
abbrev pub ending_of : Parts → Ending
ending_of parts = record { origin = origin_of parts.source; read_faults = parts.source.calls.faults; write_faults = parts.sink.calls.faults; written = Some parts.sink.bytes; flushed = Some parts.sink.flushed }

-- these bytes as origins, numbered from n on
abbrev pub numbered : ℕ → List (List ℕ) → List Origin
numbered n [] = []
numbered n (bytes ∷ rest) = record { number = n; bytes = bytes } ∷ numbered (n + 1) rest

-- the bytes of the connections that were handed out, the connections that are left, what was given back, and the calls
pub record EarsState : Type 0 where
  pub heard : List (List ℕ)
  pub waiting : List Parts
  pub returned : List Ending
  pub calls : Calls

-- the call is one of those that are to fail, or no connection is left
abbrev pub NextFails : EarsState → Type 0
NextFails s = IsListed s.calls ⊎ (s.waiting ≡ [])

-- nothing was read
abbrev pub IsUnread : SourceState → Type 0
IsUnread s = (s.taken ≡ 0) × (s.calls.faults ≡ 0)

-- nothing was written
abbrev pub IsUnwritten : SinkState → Type 0
IsUnwritten s = (s.bytes ≡ []) × (s.flushed ≡ []) × (s.calls.faults ≡ 0)

-- the source, as a part of the connection of that number
abbrev pub source_numbered : SourceState → ℕ → SourceState
source_numbered s n = record { bytes = s.bytes; taken = s.taken; piece = s.piece; number = Some n; calls = s.calls }

-- the sink, as a part of the connection of that number
abbrev pub sink_numbered : SinkState → ℕ → SinkState
sink_numbered s n = record { bytes = s.bytes; flushed = s.flushed; room = s.room; number = Some n; calls = s.calls }

-- the first connection that was left is handed out as these parts, with the next number
pub record HandsOutFirst (before now : EarsState) (source : SourceState) (sink : SinkState) : Type 0 where
  pub parts : Parts
  pub first : before.waiting ≡ parts ∷ now.waiting
  pub source_is : source ≡ source_numbered parts.source (length before.heard)
  pub sink_is : sink ≡ sink_numbered parts.sink (length before.heard)
  pub unread : IsUnread parts.source
  pub unwritten : IsUnwritten parts.sink
  pub heard : now.heard ≡ before.heard ++ parts.source.bytes ∷ []
  pub returned : now.returned ≡ before.returned
  pub calls : now.calls ≡ answered before.calls

-- the last of these connections had these bytes written to it
abbrev pub EndsWritten : List Ending → List ℕ → Type 0
EndsWritten endings bytes = (before : List Ending) × (last : Ending) × (endings ≡ before ++ last ∷ []) × (last.written ≡ Some bytes)
