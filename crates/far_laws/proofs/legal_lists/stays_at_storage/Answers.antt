use Rattle.far_laws.proofs.legal_lists.Storage.{kept-all}
use Rattle.far_laws.proofs.legal_lists.stays_at_storage.Goals as goal

pub returns : goal.returns
returns g c = λ it limits before after k l keeps at. kept-all (g.V.Means.meaning it) limits before after k l keeps at
