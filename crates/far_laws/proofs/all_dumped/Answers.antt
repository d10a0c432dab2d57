use Rattle.std.proofs.Common.{◌∙◌, sym}
use Rattle.far_laws.specs.Speaking.{front, speaker}
use Rattle.far_laws.proofs.Behind.{is_behind}
use Rattle.far_laws.proofs.Listed.{known_of, whole_dump}
use Rattle.far_laws.proofs.all_dumped.Goals as goal

pub returns : goal.returns
returns g c = λ it limits boot told n first last es written lines names known chain dump.
    let m = g.V.Versions.meaning it in
    let f = front m limits boot told in
    whole_dump m limits boot n (speaker f) first last
    (known_of m limits boot n (speaker f) last known (is_behind f n names c.text_reads.ensures c.one_reading.ensures) (g.met.V.Versions.stand it)
    (g.met.V.Versions.same_key it (sym (g.met.V.Versions.told it) ∙ known.honest)) c.text_reads.ensures c.one_reading.ensures)
    (g.met.V.Versions.names it) es written lines chain dump
