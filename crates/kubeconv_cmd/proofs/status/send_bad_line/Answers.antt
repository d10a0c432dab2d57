use Rattle.kubeconv_cmd.proofs.status.send_bad_line.Goals as goal

pub returns-clause-sent : goal.returns-clause-sent
returns-clause-sent g c = c.send_number.ensures.sent
