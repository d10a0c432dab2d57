use Rattle.std.proofs.Common.{◌≤◌, ◌-◌, length, drop}
use Rattle.chunked_bodies.specs.inner.Walk.{GoesOn}
use Rattle.chunked_bodies.proofs.chunks.joined.Given as goal

-- the chunks that were passed stand before
abbrev pub invariant-loop-start : goal.invariant-loop-start
invariant-loop-start l = record {
  within : l.at ≤ length l.bytes;
  goes : GoesOn l.bytes (drop l.at l.bytes) l.content.items;
}

abbrev pub decreases-loop-start : goal.decreases-loop-start
decreases-loop-start l = length l.bytes - l.at
