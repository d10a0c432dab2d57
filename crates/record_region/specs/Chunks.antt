-- How many chunks some bytes take.
use Rattle.std.specs.Prelude.{ℕ, ◌+◌, ◌-◌, ◌/◌, max}
use Rattle.record_region.specs.declared.chunks.TheConstants.{CHUNK_BYTES}

-- the chunks that so many bytes fill or begin, and at least one
abbrev pub chunks_of : ℕ → ℕ
chunks_of n = max 1 ((n + (CHUNK_BYTES - 1)) / CHUNK_BYTES)
