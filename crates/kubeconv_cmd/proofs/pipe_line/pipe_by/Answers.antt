use Rattle.kubeconv_cmd.proofs.pipe_line.pipe_by.Goals as goal

pub returns-in-Ok-serve_input-clause-held : goal.returns-in-Ok-serve_input-clause-held
returns-in-Ok-serve_input-clause-held g c =
    let e = c.in-Ok-serve_input.ensures in record { conversed = e.talk; paced = e.paced; blames = e.blames; hands_on = e.flushed }
