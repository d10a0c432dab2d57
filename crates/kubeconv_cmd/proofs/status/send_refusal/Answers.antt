use Rattle.std.proofs.lemmas.Result.{err_from_is_err_and}
use Rattle.edge_io.specs.laws.Sending.{adds_more, adds_fewer, sends_more}
use Rattle.kubeconv_cmd.specs.Status.{refusal_line}
use Rattle.kubeconv_cmd.proofs.status.send_refusal.Goals as goal

pub returns-in_err-send-clause-sent : goal.returns-in_err-send-clause-sent
unfolding refusal_line
returns-in_err-send-clause-sent g c =
    let p = err_from_is_err_and c.from_residual.result c.from_residual.ensures.1 in
    rw p.1 (adds_fewer _ _ _ _ c.in_err-send.ensures.sent)

pub returns-in_err-send-2-clause-sent : goal.returns-in_err-send-2-clause-sent
unfolding refusal_line
returns-in_err-send-2-clause-sent g c =
    let p = err_from_is_err_and c.from_residual-in_err-send-2.result c.from_residual-in_err-send-2.ensures.1 in
    rw p.1 (adds_more _ _ _ _ _ c.in_ok-send.ensures.sent (adds_fewer _ _ _ _ c.in_err-send-2.ensures.sent))

pub returns-in_err-send-3-clause-sent : goal.returns-in_err-send-3-clause-sent
unfolding refusal_line
returns-in_err-send-3-clause-sent g c =
    let p = err_from_is_err_and c.from_residual-in_err-send-3.result c.from_residual-in_err-send-3.ensures.1 in
    rw p.1 (adds_more _ _ _ _ _ c.in_ok-send.ensures.sent (adds_more _ _ _ _ _ c.in_ok-send-2.ensures.sent (adds_fewer _ _ _ _ c.in_err-send-3.ensures.sent)))

pub returns-in_err-send_why-clause-sent : goal.returns-in_err-send_why-clause-sent
unfolding refusal_line
returns-in_err-send_why-clause-sent g c =
    let p = err_from_is_err_and c.from_residual-in_err-send_why.result c.from_residual-in_err-send_why.ensures.1 in
    rw p.1 (adds_more _ _ _ _ _ c.in_ok-send.ensures.sent (adds_more _ _ _ _ _ c.in_ok-send-2.ensures.sent (adds_more _ _ _ _ _ c.in_ok-send-3.ensures.sent (adds_fewer _ _ _ _ c.in_err-send_why.ensures.sent))))

pub returns-clause-sent : goal.returns-clause-sent
unfolding refusal_line
returns-clause-sent g c =
    sends_more _ _ _ _ _ _ c.in_ok-send.ensures.sent (sends_more _ _ _ _ _ _ c.in_ok-send-2.ensures.sent (sends_more _ _ _ _ _ _ c.in_ok-send-3.ensures.sent (sends_more _ _ _ _ _ _ c.in_ok-send_why.ensures.sent c.send-4.ensures.sent)))
