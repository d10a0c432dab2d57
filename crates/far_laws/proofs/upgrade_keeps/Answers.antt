use Rattle.std.proofs.Common.{◌∙◌, sym}
use Rattle.far_laws.proofs.Listed.{known_of}
use Rattle.far_laws.proofs.Kept.{all_kept}
use Rattle.far_laws.proofs.upgrade_keeps.Goals as goal

pub returns : goal.returns
returns g c = λ it limits boot far n first last es h known gives behind chain runs.
    let m = g.V.Versions.meaning it in
    all_kept m limits boot n (g.S.Serving.server far) last
    (known_of m limits boot n (g.S.Serving.server far) last known behind (g.met.V.Versions.stand it) (g.met.V.Versions.same_key it (sym (g.met.V.Versions.told it) ∙ known.honest))
    c.text_reads.ensures c.one_reading.ensures)
    (g.met.V.Versions.names it) gives first es h chain runs
