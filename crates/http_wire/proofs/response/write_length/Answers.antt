use Rattle.std.proofs.lemmas.Result.{err_from_is_err_and}
use Rattle.http_wire.specs.Response.{length_field}
use Rattle.edge_io.specs.laws.Sending.{adds_more, adds_fewer, sends_more}
use Rattle.http_wire.proofs.response.write_length.Goals as goal

pub returns-in_err-send-clause-sent : goal.returns-in_err-send-clause-sent
unfolding length_field
returns-in_err-send-clause-sent g c =
    let p = err_from_is_err_and c.from_residual.result c.from_residual.ensures.1 in
    rw p.1 (adds_fewer _ _ _ _ c.in_err-send.ensures.sent)

pub returns-in_err-send_number-clause-sent : goal.returns-in_err-send_number-clause-sent
unfolding length_field
returns-in_err-send_number-clause-sent g c =
    let p = err_from_is_err_and c.from_residual-in_err-send_number.result c.from_residual-in_err-send_number.ensures.1 in
    rw p.1 (adds_more _ _ _ _ _ c.in_ok-send.ensures.sent (adds_fewer _ _ _ _ c.in_err-send_number.ensures.sent))

pub returns-clause-sent : goal.returns-clause-sent
unfolding length_field
returns-clause-sent g c = sends_more _ _ _ _ _ _ c.in_ok-send.ensures.sent (sends_more _ _ _ _ _ _ c.in_ok-send_number.ensures.sent (c.send-2.ensures.sent))
