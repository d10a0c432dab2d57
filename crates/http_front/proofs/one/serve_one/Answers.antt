use Rattle.std.proofs.Common.{refl, arith, length-drop}
use Rattle.http_wire.specs.Inboxes.{request_at}
use Rattle.http_front.specs.Going.{answer_of}
use Rattle.http_front.proofs.Ending.{blames_stopped, blames_written, did_handed, did_stop, if_handed, if_stopped}
use Rattle.http_front.proofs.one.serve_one.Goals as goal

pub returns-in-Ok-clause-did : goal.returns-in-Ok-clause-did
returns-in-Ok-clause-did g c = λ n named.
    did_handed _ c.in-Ok.parts.closing
    (record { request = request_at c.read_request.new.inbox.bytes c.in-Ok.parts; answer = answer_of c.answer_request-answer.result; utf8 = c.handed.ensures.utf8 })
    c.handed.result _ _ _ _ _ _ refl (c.answer_request-answer.ensures.answers n named)
    (λ b known. let next = c.in-Ok.ensures.asks b known in (next.0, rw c.used.ensures next.1, next.2)) c.handed.ensures.wrote

pub returns-in-Ok-clause-prompt : goal.returns-in-Ok-clause-prompt
returns-in-Ok-clause-prompt g c = λ none m is.
    let few = c.in-Ok.ensures.prompt none m is in
    let behind = length-drop c.read_request.new.inbox.request c.read_request.new.inbox.bytes in
    if_handed c.in-Ok.parts.closing _ _ _ c.handed.result _ _ (rw c.used.ensures (omega (arith, behind, few, c.in-Ok.ensures.next.within))) c.handed.ensures.wrote

pub returns-in-Ok-clause-blames : goal.returns-in-Ok-clause-blames
returns-in-Ok-clause-blames g c = blames_written c.handed.result _ _ c.handed.ensures.blame

pub returns-in-Err-clause-did : goal.returns-in-Err-clause-did
returns-in-Err-clause-did g c = λ n named. did_stop _ c.in-Err.fault c.stopped.result _ _ _ _ _ c.in-Err.ensures.asks c.stopped.ensures.stops

pub returns-in-Err-clause-prompt : goal.returns-in-Err-clause-prompt
returns-in-Err-clause-prompt g c = λ none m is. if_stopped c.in-Err.fault c.stopped.result _ _ _ _ c.in-Err.ensures.asks c.stopped.ensures.stops

pub returns-in-Err-clause-blames : goal.returns-in-Err-clause-blames
returns-in-Err-clause-blames g c = blames_stopped c.in-Err.fault c.stopped.result _ _ c.in-Err.ensures.cause c.stopped.ensures.blame
