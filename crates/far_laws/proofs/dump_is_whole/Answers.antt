use Rattle.std.proofs.Common.{◌∙◌, sym}
use Rattle.far_laws.proofs.Listed.{known_of, whole_dump}
use Rattle.far_laws.proofs.dump_is_whole.Goals as goal

pub returns : goal.returns
returns g c = λ it limits boot far n first last es written lines known behind chain dump.
    let m = g.V.Versions.meaning it in
    whole_dump m limits boot n (g.S.Serving.server far) first last
    (known_of m limits boot n (g.S.Serving.server far) last known behind (g.met.V.Versions.stand it) (g.met.V.Versions.same_key it (sym (g.met.V.Versions.told it) ∙ known.honest))
    c.text_reads.ensures c.one_reading.ensures)
    (g.met.V.Versions.names it) es written lines chain dump
