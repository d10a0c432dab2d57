use Rattle.std.proofs.lemmas.Result.{err_from_is_err_and}
use Rattle.http_wire.specs.Requesting.{asks_for}
use Rattle.edge_io.specs.laws.Sending.{adds_more, adds_fewer, sends_more}
use Rattle.http_wire.proofs.requesting.write_request.Goals as goal

pub returns-in_err-write_request_line-clause-sent : goal.returns-in_err-write_request_line-clause-sent
unfolding asks_for
returns-in_err-write_request_line-clause-sent g c =
    let p = err_from_is_err_and c.from_residual.result c.from_residual.ensures.1 in
    rw p.1 (adds_fewer _ _ _ _ c.in_err-write_request_line.ensures.sent)

pub returns-in_err-write_host_and_type-clause-sent : goal.returns-in_err-write_host_and_type-clause-sent
unfolding asks_for
returns-in_err-write_host_and_type-clause-sent g c =
    let p = err_from_is_err_and c.from_residual-in_err-write_host_and_type.result c.from_residual-in_err-write_host_and_type.ensures.1 in
    rw p.1 (adds_more _ _ _ _ _ c.in_ok-write_request_line.ensures.sent (adds_fewer _ _ _ _ c.in_err-write_host_and_type.ensures.sent))

pub returns-in_err-write_length-clause-sent : goal.returns-in_err-write_length-clause-sent
unfolding asks_for
returns-in_err-write_length-clause-sent g c =
    let p = err_from_is_err_and c.from_residual-in_err-write_length.result c.from_residual-in_err-write_length.ensures.1 in
    rw p.1 (adds_more _ _ _ _ _ c.in_ok-write_request_line.ensures.sent (adds_more _ _ _ _ _ c.in_ok-write_host_and_type.ensures.sent (adds_fewer _ _ _ _ c.in_err-write_length.ensures.sent)))

pub returns-in_err-write_last_lines-clause-sent : goal.returns-in_err-write_last_lines-clause-sent
unfolding asks_for
returns-in_err-write_last_lines-clause-sent g c =
    let p = err_from_is_err_and c.from_residual-in_err-write_last_lines.result c.from_residual-in_err-write_last_lines.ensures.1 in
    rw p.1 (adds_more _ _ _ _ _ c.in_ok-write_request_line.ensures.sent (adds_more _ _ _ _ _ c.in_ok-write_host_and_type.ensures.sent (adds_more _ _ _ _ _ c.in_ok-write_length.ensures.sent (adds_fewer _ _ _ _ c.in_err-write_last_lines.ensures.sent))))

pub returns-clause-sent : goal.returns-clause-sent
unfolding asks_for
returns-clause-sent g c = sends_more _ _ _ _ _ _ c.in_ok-write_request_line.ensures.sent (sends_more _ _ _ _ _ _ c.in_ok-write_host_and_type.ensures.sent (sends_more _ _ _ _ _ _ c.in_ok-write_length.ensures.sent (sends_more _ _ _ _ _ _ c.in_ok-write_last_lines.ensures.sent c.send.ensures.sent)))
