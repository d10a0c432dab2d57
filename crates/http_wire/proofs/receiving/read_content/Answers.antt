use Rattle.std.proofs.Common.{◌≡◌, ℕ, ◌+◌, ◌<◌, List, length, refl, ◌∙◌, inl, arith, ap}
use Rattle.http_wire.proofs.ReceivingLemmas.{body_torn, head_grown, parts_read, short_no_whole}
use Rattle.http_wire.proofs.ReadingLemmas.{same_bytes, short_at_first}
use Rattle.http_wire.proofs.receiving.read_content.Goals as goal

pub returns-in-Ok-eq0-clause-next : goal.returns-in-Ok-eq0-clause-next
returns-in-Ok-eq0-clause-next g c =
    let same : c.fill_response.new.self.bytes ≡ c.loop-inbox.inbox.bytes = same_bytes _ _ _ c.in-Ok-eq0.ensures.front c.in-Ok-eq0.ensures.more c.in-Ok-eq0.field-0-test in
    let short : length c.loop-inbox.inbox.bytes < c.args.head.len + c.args.head.body = omega (arith, ap (λ (xs : List ℕ). length xs) c.held.ensures) in
    let torn = body_torn c.loop-inbox.inbox.bytes c.args.head c.loop-inbox.invariant.head short in
    rw (c.held-in-Ok-eq0.ensures, same) (refl, torn.0, torn.1, c.in-Ok-eq0.ensures.end c.in-Ok-eq0.field-0-test)

pub loop-inbox-preserved : goal.loop-inbox-preserved
loop-inbox-preserved g c =
    let now : length c.loop-inbox.inbox.bytes < c.args.head.len + c.args.head.body = omega (arith, ap (λ (xs : List ℕ). length xs) c.held.ensures) in
    record {
      same = c.in-Ok.ensures.bytes ∙ c.loop-inbox.invariant.same;
      head = head_grown c.loop-inbox.inbox.bytes _ c.args.head c.in-Ok.ensures.front c.loop-inbox.invariant.head;
      ready = inl (short_at_first c.loop-inbox.inbox c.args.inbox.now _ c.loop-inbox.invariant.ready now);
      origin = c.in-Ok.ensures.origin ∙ c.loop-inbox.invariant.origin;
      later = omega (arith, c.in-Ok.ensures.cause.later, c.loop-inbox.invariant.later);
    }

pub returns-clause-next : goal.returns-clause-next
returns-clause-next g c =
    rw c.note.ensures (parts_read _ _ c.loop-inbox.invariant.head (omega (arith, ap (λ (xs : List ℕ). length xs) c.held.ensures)))

pub fill_response-requires-clause-needed : goal.fill_response-requires-clause-needed
fill_response-requires-clause-needed g c =
    short_no_whole _ c.args.head c.loop-inbox.invariant.head (omega (arith, ap (λ (xs : List ℕ). length xs) c.held.ensures))
