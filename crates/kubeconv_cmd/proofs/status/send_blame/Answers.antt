use Rattle.std.proofs.lemmas.Result.{err_from_is_err_and}
use Rattle.edge_io.specs.laws.Sending.{adds_more, adds_fewer, sends_more}
use Rattle.kubeconv_cmd.specs.Sources.{blame_text}
use Rattle.kubeconv_cmd.proofs.status.send_blame.Goals as goal

pub returns-in_err-send-clause-sent : goal.returns-in_err-send-clause-sent
unfolding blame_text
returns-in_err-send-clause-sent g c =
    let p = err_from_is_err_and c.from_residual.result c.from_residual.ensures.1 in
    rw p.1 (adds_fewer _ _ _ _ c.in_err-send.ensures.sent)

pub returns-in_err-send-2-clause-sent : goal.returns-in_err-send-2-clause-sent
unfolding blame_text
returns-in_err-send-2-clause-sent g c =
    let p = err_from_is_err_and c.from_residual-in_err-send-2.result c.from_residual-in_err-send-2.ensures.1 in
    rw p.1 (adds_more _ _ _ _ _ c.in_ok-send.ensures.sent (adds_fewer _ _ _ _ c.in_err-send-2.ensures.sent))

pub returns-clause-sent : goal.returns-clause-sent
unfolding blame_text
returns-clause-sent g c = sends_more _ _ _ _ _ _ c.in_ok-send.ensures.sent (sends_more _ _ _ _ _ _ c.in_ok-send-2.ensures.sent c.send-3.ensures.sent)
