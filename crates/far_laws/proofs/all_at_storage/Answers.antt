use Rattle.std.proofs.Common.{◌∙◌, sym}
use Rattle.far_laws.proofs.Serving.{all_upgraded}
use Rattle.far_laws.proofs.all_at_storage.Goals as goal

pub returns : goal.returns
returns g c = λ it limits boot far n first last es t mean behind chain runs none.
    all_upgraded (g.V.Versions.meaning it) limits boot n (g.S.Serving.server far) first last mean behind (g.met.V.Versions.stand it)
    (g.met.V.Versions.same_key it (sym (g.met.V.Versions.told it) ∙ mean.honest)) c.text_reads.ensures c.one_reading.ensures es t chain runs none
