use Rattle.std.proofs.lemmas.Result.{err_from_is_err_and}
use Rattle.http_wire.specs.Requesting.{request_line}
use Rattle.edge_io.specs.laws.Sending.{adds_more, adds_fewer, sends_more}
use Rattle.http_wire.proofs.requesting.write_request_line.Goals as goal

pub returns-in_err-send-clause-sent : goal.returns-in_err-send-clause-sent
unfolding request_line
returns-in_err-send-clause-sent g c =
    let p = err_from_is_err_and c.from_residual.result c.from_residual.ensures.1 in
    rw p.1 (adds_fewer _ _ _ _ (rw c.as_bytes.ensures.value at c.in_err-send.ensures.sent))

pub returns-in_err-send-2-clause-sent : goal.returns-in_err-send-2-clause-sent
unfolding request_line
returns-in_err-send-2-clause-sent g c =
    let p = err_from_is_err_and c.from_residual-in_err-send-2.result c.from_residual-in_err-send-2.ensures.1 in
    rw p.1 (adds_more _ _ _ _ _ (rw c.as_bytes.ensures.value at c.in_ok-send.ensures.sent) (adds_fewer _ _ _ _ c.in_err-send-2.ensures.sent))

pub returns-in_err-send-3-clause-sent : goal.returns-in_err-send-3-clause-sent
unfolding request_line
returns-in_err-send-3-clause-sent g c =
    let p = err_from_is_err_and c.from_residual-in_err-send-3.result c.from_residual-in_err-send-3.ensures.1 in
    rw p.1 (adds_more _ _ _ _ _ (rw c.as_bytes.ensures.value at c.in_ok-send.ensures.sent) (adds_more _ _ _ _ _ c.in_ok-send-2.ensures.sent (adds_fewer _ _ _ _ (rw c.as_bytes-2.ensures.value at c.in_err-send-3.ensures.sent))))

pub returns-clause-sent : goal.returns-clause-sent
unfolding request_line
returns-clause-sent g c = sends_more _ _ _ _ _ _ (rw c.as_bytes.ensures.value at c.in_ok-send.ensures.sent) (sends_more _ _ _ _ _ _ c.in_ok-send-2.ensures.sent (sends_more _ _ _ _ _ _ (rw c.as_bytes-2.ensures.value at c.in_ok-send-3.ensures.sent) c.send-4.ensures.sent))
