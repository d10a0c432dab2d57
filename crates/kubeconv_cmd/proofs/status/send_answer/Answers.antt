use Rattle.kubeconv_cmd.proofs.status.send_answer.Goals as goal

pub returns-clause-sent : goal.returns-clause-sent
returns-clause-sent g c = c.send_number.ensures.sent
