use Rattle.wire_client.specs.Calls.{gets, puts}
use Rattle.far_laws.proofs.Decided.{get_finds_none, put_finds_none}
use Rattle.far_laws.proofs.missed_is_absent.Goals as goal

pub returns-clause-put : goal.returns-clause-put
returns-clause-put g c = λ it limits boot far n log own key j valid behind a.
    put_finds_none (record { meaning = g.V.Versions.meaning it; limits = limits; boot = boot }) n log own key j (behind.misses (puts key j) valid log own a)

pub returns-clause-get : goal.returns-clause-get
returns-clause-get g c = λ it limits boot far n log own key valid behind a.
    get_finds_none (record { meaning = g.V.Versions.meaning it; limits = limits; boot = boot }) n log own key (behind.misses (gets key) valid log own a)
