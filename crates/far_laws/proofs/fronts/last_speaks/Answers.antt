use Rattle.far_laws.specs.Speaking.{front}
use Rattle.far_laws.proofs.fronts.Steps.{last_speaks, served_untold}
use Rattle.far_laws.proofs.fronts.last_speaks.Goals as goal

pub returns-clause-told : goal.returns-clause-told
returns-clause-told g c = λ it limits boot told n p q bytes answer left d few short.
    last_speaks (front (g.V.Versions.meaning it) limits boot told) n p q bytes answer left d few short

pub returns-clause-untold : goal.returns-clause-untold
returns-clause-untold g c = λ it limits boot told n p q bytes answer left d few short.
    let f = front (g.V.Versions.meaning it) limits boot told in
    served_untold f _ bytes answer _ (last_speaks f n p q bytes answer left d few short)
