use Rattle.std.proofs.Common.{◌≡◌, ◌≤◌, ℕ, List, [], length}
use Rattle.httparse.specs.Grammar.{ResponseHead, ReadsResponse}
use Rattle.chunked_bodies.specs.inner.Walk.{before_field}
use Rattle.chunked_bodies.proofs.lines.field_line.Given as goal

-- the field of the place that was come to stands there
abbrev pub invariant-loop-passed : goal.invariant-loop-passed
invariant-loop-passed l = record {
  within : l.at ≤ length l.bytes;
  line : (h : ResponseHead) (after : List ℕ) → ReadsResponse l.bytes h after → h.blank ≡ [] → l._passed ≤ length h.fields → l.at ≡ length (before_field h l._passed);
}
