use Rattle.std.proofs.Common.{◌∙◌, sym}
use Rattle.far_laws.proofs.Serving.{all_upgraded}
use Rattle.far_laws.specs.Speaking.{front, speaker}
use Rattle.far_laws.proofs.Behind.{is_behind}
use Rattle.far_laws.proofs.all_upgraded.Goals as goal

pub returns : goal.returns
returns g c = λ it limits boot told n first last es t names mean chain runs none.
    let f = front (g.V.Versions.meaning it) limits boot told in
    all_upgraded (g.V.Versions.meaning it) limits boot n (speaker f) first last mean (is_behind f n names c.text_reads.ensures c.one_reading.ensures)
    (g.met.V.Versions.stand it) (g.met.V.Versions.same_key it (sym (g.met.V.Versions.told it) ∙ mean.honest)) c.text_reads.ensures c.one_reading.ensures es t chain runs none
