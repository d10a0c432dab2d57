use Rattle.run_laws.proofs.PipeLaws.{pipe_exact, pipe_talk}
use Rattle.run_laws.proofs.pipe.the_end_of_the_input.Goals as goal

pub returns : goal.returns
returns g c = λ w source turns s b requests end out told nf nr nw served asks.
    pipe_exact w source turns s b requests end c.one_reading.ensures (pipe_talk w source turns s b out.0 told nf nr nw) served asks
