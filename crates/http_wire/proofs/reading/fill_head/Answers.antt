use Rattle.std.proofs.Common.{ℕ, List, length, ap, ◌∙◌, arith}
use Rattle.http_wire.proofs.ReadingLemmas.{no_whole, no_head_grown, no_line}
use Rattle.http_wire.proofs.reading.fill_head.Goals as goal

pub fill-requires-clause-needed : goal.fill-requires-clause-needed
fill-requires-clause-needed g c = no_whole _ c.loop-count.invariant.none

pub loop-count-preserved : goal.loop-count-preserved
loop-count-preserved g c = record {
  same = c.in_ok-count.ensures.bytes ∙ c.loop-count.invariant.same;
  more = omega (arith, c.in_ok-count.ensures.more, c.loop-count.invariant.more);
  room = omega (arith, c.in_ok-count.ensures.more, ap (λ (xs : List ℕ). length xs) c.held-held.ensures);
  none = no_head_grown c.loop-count.inbox.bytes c.fill.new.self.bytes c.in_ok-count.ensures.front c.loop-count.invariant.none
      (no_line _ _ _ _ c.held-held.ensures c.held.ensures c.if-has_empty_line.ensures.1);
  origin = c.in_ok-count.ensures.origin ∙ c.loop-count.invariant.origin;
  most = c.in_ok-count.ensures.most ∙ c.loop-count.invariant.most;
  later = omega (arith, c.in_ok-count.ensures.cause.later, c.loop-count.invariant.later);
}
