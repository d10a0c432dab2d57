use Rattle.crd_settings.proofs.Compared.{same_test}
use Rattle.crd_settings.proofs.own.is_same.Goals as goal

pub returns : goal.returns
returns c = same_test _ _ _ c.same.ensures
