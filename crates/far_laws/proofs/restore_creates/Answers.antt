use Rattle.std.proofs.Common.{◌∙◌, sym}
use Rattle.far_laws.specs.Speaking.{front}
use Rattle.far_laws.proofs.Restoring.{restored}
use Rattle.far_laws.proofs.restore_creates.Goals as goal

pub returns : goal.returns
returns g c = λ it limits boot told n first last bytes names honest r.
    restored (front (g.V.Versions.meaning it) limits boot told) n names c.text_reads.ensures c.one_reading.ensures (g.met.V.Versions.stand it)
    (g.met.V.Versions.same_key it (sym (g.met.V.Versions.told it) ∙ honest)) honest last r.legal first bytes r
