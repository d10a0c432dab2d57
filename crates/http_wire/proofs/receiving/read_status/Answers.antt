use Rattle.std.proofs.Common.{ℕ, List, length, ◌∙◌, inl, arith, ap}
use Rattle.http_wire.proofs.ReceivingLemmas.{no_head_yet, open_as, too_long, open_none}
use Rattle.http_wire.proofs.receiving.read_status.Goals as goal

pub returns-then-held-ge-MOST_HEAD_BYTES-clause-next : goal.returns-then-held-ge-MOST_HEAD_BYTES-clause-next
returns-then-held-ge-MOST_HEAD_BYTES-clause-next g c =
    too_long c.loop-parts.inbox.bytes (omega (arith, ap (λ (xs : List ℕ). length xs) c.held-in-loop-parts.ensures)) (open_as _ _ c.held.ensures c.in-Open.ensures)

pub fill_status-requires-clause-none : goal.fill_status-requires-clause-none
fill_status-requires-clause-none g c = open_none _ (open_as _ _ c.held.ensures c.in-Open.ensures)

pub returns-in-Err-clause-ready : goal.returns-in-Err-clause-ready
returns-in-Err-clause-ready g c = λ h tail head.
    absurd (no_head_yet c.loop-parts.inbox c.args.inbox.now c.loop-parts.invariant.ready (open_as _ _ c.held.ensures c.in-Open.ensures) h tail head)

pub returns-in-Ok-true-clause-ready : goal.returns-in-Ok-true-clause-ready
returns-in-Ok-true-clause-ready g c = λ h tail head.
    absurd (no_head_yet c.loop-parts.inbox c.args.inbox.now c.loop-parts.invariant.ready (open_as _ _ c.held.ensures c.in-Open.ensures) h tail head)

pub loop-parts-preserved : goal.loop-parts-preserved
loop-parts-preserved g c = record {
  same = c.in-Ok-false.ensures.bytes ∙ c.loop-parts.invariant.same;
  ready = inl (no_head_yet c.loop-parts.inbox c.args.inbox.now c.loop-parts.invariant.ready (open_as _ _ c.held.ensures c.in-Open.ensures));
  origin = c.in-Ok-false.ensures.origin ∙ c.loop-parts.invariant.origin;
  later = omega (arith, c.in-Ok-false.ensures.cause.later, c.loop-parts.invariant.later);
}
