use Rattle.far_laws.specs.Speaking.{front}
use Rattle.far_laws.proofs.fronts.Steps.{goes_on}
use Rattle.far_laws.proofs.fronts.goes_on.Goals as goal

pub returns : goal.returns
returns g c = λ it limits boot told n end p q known left before written d.
    goes_on (front (g.V.Versions.meaning it) limits boot told) n end p q known left before written d
