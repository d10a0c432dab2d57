use Rattle.std.proofs.Common.{map}
use Rattle.httparse.specs.Spans.{header_bytes}
use Rattle.chunked_bodies.specs.inner.Walk.{Found}
use Rattle.chunked_bodies.proofs.coding.coding_of.Given as goal

-- of the fields that were passed one alone, or none, says how the body ends
abbrev pub invariant-loop-i : goal.invariant-loop-i
invariant-loop-i l = Found (map (header_bytes l.bytes) l.headers) l.i l.found
