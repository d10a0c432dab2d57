use Rattle.std.proofs.Common.{◌∙◌, sym}
use Rattle.far_laws.proofs.Listed.{known_of}
use Rattle.run_laws.proofs.tallies.Going.{page_on, reached_at}
use Rattle.run_laws.proofs.tallies.pages_go_on.Goals as goal

pub returns-clause-reached : goal.returns-clause-reached
returns-clause-reached g c = λ it limits boot far n first log last es a known behind to chain reaches.
    let m = g.V.Versions.meaning it in
    let f = g.S.Serving.server far in
    reached_at m limits boot n f last
    (known_of m limits boot n f last known behind (g.met.V.Versions.stand it) (g.met.V.Versions.same_key it (sym (g.met.V.Versions.told it) ∙ known.honest)) c.text_reads.ensures c.one_reading.ensures)
    first log es a to chain reaches

pub returns-clause-page : goal.returns-clause-page
returns-clause-page g c = λ it limits boot far n log own last a j known most behind to at answered.
    let m = g.V.Versions.meaning it in
    let f = g.S.Serving.server far in
    page_on m limits boot n f last
    (known_of m limits boot n f last known behind (g.met.V.Versions.stand it) (g.met.V.Versions.same_key it (sym (g.met.V.Versions.told it) ∙ known.honest)) c.text_reads.ensures c.one_reading.ensures)
    log own a j most to at answered
