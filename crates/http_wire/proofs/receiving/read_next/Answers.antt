use Rattle.std.proofs.Common.{◌≡◌, ℕ, List, sym, ◌∙◌, subst, ap}
use Rattle.http_wire.specs.Received.{Receives}
use Rattle.http_wire.specs.Inboxes.{Held}
use Rattle.http_wire.proofs.ReceivingLemmas.{received, lack_of_all, whole_held, reads_head}
use Rattle.http_wire.proofs.receiving.read_next.Goals as goal

pub returns-in-Ok-clause-received : goal.returns-in-Ok-clause-received
returns-in-Ok-clause-received g c = λ b known.
    received b c.read_content.new.inbox _ c.read_content.result c.read_content.ensures.next (c.read_content.ensures.same ∙ c.read_status.ensures.same ∙ known)

pub returns-in-Ok-clause-ready : goal.returns-in-Ok-clause-ready
returns-in-Ok-clause-ready g c = λ r rest reads.
    let one = reads_head _ r rest reads in
    let first = c.read_status.ensures.ready one.0 one.1 one.2 in
    let bytes : c.read_status.new.inbox.bytes ≡ c.args.inbox.now.bytes = ap (λ (i : Held). i.bytes) first.1 in
    let whole = whole_held c.read_status.new.inbox.bytes r rest c.in-Ok.head (subst (λ (xs : List ℕ). Receives xs r rest) (sym bytes) reads) c.in-Ok.ensures.next in
    let second = c.read_content.ensures.ready whole in
    (second.0 ∙ first.0, second.1 ∙ bytes)

pub returns-in-Err-clause-received : goal.returns-in-Err-clause-received
returns-in-Err-clause-received g c = λ b known.
    lack_of_all c.read_status.new.inbox.bytes b _ c.in-Err.fault c.in-Err.ensures.next (c.read_status.ensures.same ∙ known)

pub returns-in-Err-clause-ready : goal.returns-in-Err-clause-ready
returns-in-Err-clause-ready g c = λ r rest reads.
    let one = reads_head _ r rest reads in
    let first = c.read_status.ensures.ready one.0 one.1 one.2 in
    (first.0, ap (λ (i : Held). i.bytes) first.1)
