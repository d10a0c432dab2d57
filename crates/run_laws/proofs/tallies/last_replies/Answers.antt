use Rattle.far_laws.specs.Speaking.{front}
use Rattle.run_laws.proofs.tallies.Stepping.{last_replies}
use Rattle.run_laws.proofs.tallies.last_replies.Goals as goal

pub returns : goal.returns
returns g c = λ it limits boot told n p q bytes answer left done few short calm. last_replies (front (g.V.Versions.meaning it) limits boot told) n p q bytes answer left done few short calm
