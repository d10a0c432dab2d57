use Rattle.std.proofs.Common.{◌∙◌, refl, sym}
use Rattle.far_laws.proofs.Histories.{goes_further}
use Rattle.run_laws.proofs.tallies.Gotten.{get_law}
use Rattle.run_laws.proofs.tallies.Listed.{list_law, placed_at, small_at}
use Rattle.run_laws.proofs.tallies.Open.{facts_of}
use Rattle.run_laws.proofs.tallies.Putting.{put_law}
use Rattle.run_laws.proofs.tallies.replies_are.Goals as goal

pub returns-clause-list : goal.returns-clause-list
returns-clause-list g c = λ it limits boot told n log own last a r is kind to at answered.
    let m = g.V.Versions.meaning it in
    let honest = sym (g.met.V.Versions.told it) ∙ is.known.honest in
    let facts = facts_of m limits boot told n last is kind (g.met.V.Versions.stand it) (g.met.V.Versions.same_key it honest) (g.met.V.Versions.unstamped it) (g.met.V.Versions.one_to_one it honest)
    c.text_reads.ensures c.one_reading.ensures in
    (list_law m limits boot told n last facts a.limit a.token (small_at m log a at) log own (placed_at m log a at) (goes_further log _ last (own, refl) to) r answered).0

pub returns-clause-get : goal.returns-clause-get
returns-clause-get g c = λ it limits boot told n log own last key r is kind to valid answered.
    let m = g.V.Versions.meaning it in
    let honest = sym (g.met.V.Versions.told it) ∙ is.known.honest in
    let facts = facts_of m limits boot told n last is kind (g.met.V.Versions.stand it) (g.met.V.Versions.same_key it honest) (g.met.V.Versions.unstamped it) (g.met.V.Versions.one_to_one it honest)
    c.text_reads.ensures c.one_reading.ensures in
    (get_law m limits boot told n last facts key valid log own (goes_further log _ last (own, refl) to) r answered).0

pub returns-clause-put : goal.returns-clause-put
returns-clause-put g c = λ it limits boot told n log own last key j r is kind takes to valid shown answered.
    let m = g.V.Versions.meaning it in
    let honest = sym (g.met.V.Versions.told it) ∙ is.known.honest in
    let facts = facts_of m limits boot told n last is kind (g.met.V.Versions.stand it) (g.met.V.Versions.same_key it honest) (g.met.V.Versions.unstamped it) (g.met.V.Versions.one_to_one it honest)
    c.text_reads.ensures c.one_reading.ensures in
    put_law m limits boot told n last facts (g.met.V.Versions.decides it honest) (g.met.V.Versions.names it) takes key valid j log own (goes_further log _ last (own, refl) to)
    (record {
      start = shown.start;
      to = shown.to;
      object = shown.object;
      there = shown.there;
      v = shown.v;
      version = shown.version;
      form = shown.form;
      pair = shown.pair;
      is = shown.is;
    })
    shown.utf8 r answered
