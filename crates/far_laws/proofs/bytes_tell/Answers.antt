use Rattle.far_laws.specs.Speaking.{front}
use Rattle.far_laws.proofs.Behind.{is_behind}
use Rattle.far_laws.proofs.bytes_tell.Goals as goal

pub returns : goal.returns
returns g c = λ it limits boot told n names.
    is_behind (front (g.V.Versions.meaning it) limits boot told) n names c.text_reads.ensures c.one_reading.ensures
