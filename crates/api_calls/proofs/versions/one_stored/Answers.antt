use Rattle.api_calls.proofs.Stored.{stored_one}
use Rattle.api_calls.proofs.versions.one_stored.Goals as goal

pub returns : goal.returns
returns g c = λ it v a b bytes honest p q.
    stored_one (g.V.Versions.meaning it) v a b bytes c.one_text.ensures (g.met.V.Versions.stand it) (g.met.V.Versions.one_to_one it honest) p q
