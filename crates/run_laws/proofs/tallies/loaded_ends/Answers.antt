use Rattle.crd_laws.specs.DefinitionLaws.{decides, names, one_to_one, same_key, stand, unstamped}
use Rattle.crd_laws.specs.Loaded.{loaded_meaning}
use Rattle.crd_settings.specs.SettledLaws.{settings_of}
use Rattle.run_laws.proofs.tallies.Ends.{ends_law}
use Rattle.run_laws.proofs.tallies.ListKinds.{list_kind_few}
use Rattle.run_laws.proofs.tallies.Open.{facts_of}
use Rattle.run_laws.proofs.tallies.loaded_ends.Goals as goal

pub returns : goal.returns
returns c = λ d limits boot told n first last es h loaded whole is chain runs.
    let o = settings_of d.view in
    let m = loaded_meaning d o in
    let one = c.one_list.ensures in
    let facts = facts_of m limits boot told n last is (list_kind_few d.view whole) (stand d o one (∣ loaded ∣₁)) (same_key d o) (unstamped d o) (one_to_one d o one) c.text_reads.ensures c.one_reading.ensures in
    ends_law m limits boot told n last facts (decides d o one) (names d o whole.offered) (c.takes_back.ensures d) is.objects first es h chain runs
