use Rattle.std.proofs.Common.{◌∙◌, sym}
use Rattle.far_laws.specs.Speaking.{front, speaker}
use Rattle.far_laws.proofs.Behind.{is_behind}
use Rattle.far_laws.proofs.Listed.{known_of}
use Rattle.far_laws.proofs.Kept.{all_kept}
use Rattle.far_laws.proofs.all_kept.Goals as goal

pub returns : goal.returns
returns g c = λ it limits boot told n first last es h names known gives chain runs.
    let m = g.V.Versions.meaning it in
    let f = front m limits boot told in
    all_kept m limits boot n (speaker f) last
    (known_of m limits boot n (speaker f) last known (is_behind f n names c.text_reads.ensures c.one_reading.ensures) (g.met.V.Versions.stand it)
    (g.met.V.Versions.same_key it (sym (g.met.V.Versions.told it) ∙ known.honest)) c.text_reads.ensures c.one_reading.ensures)
    (g.met.V.Versions.names it) gives first es h chain runs
