use Rattle.std.proofs.Common.{◌∙◌, sym}
use Rattle.run_laws.proofs.tallies.Ends.{ends_law}
use Rattle.run_laws.proofs.tallies.Open.{facts_of}
use Rattle.run_laws.proofs.tallies.migration_ends.Goals as goal

pub returns : goal.returns
returns g c = λ it limits boot told n first last es h is kind takes chain runs.
    let m = g.V.Versions.meaning it in
    let honest = sym (g.met.V.Versions.told it) ∙ is.known.honest in
    let facts = facts_of m limits boot told n last is kind (g.met.V.Versions.stand it) (g.met.V.Versions.same_key it honest) (g.met.V.Versions.unstamped it) (g.met.V.Versions.one_to_one it honest)
    c.text_reads.ensures c.one_reading.ensures in
    ends_law m limits boot told n last facts (g.met.V.Versions.decides it honest) (g.met.V.Versions.names it) takes is.objects first es h chain runs
