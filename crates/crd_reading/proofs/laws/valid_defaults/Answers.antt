use Rattle.crd_reading.proofs.ValidDefaults.{valid_defaults}
use Rattle.crd_reading.proofs.laws.valid_defaults.Goals as goal

pub returns : goal.returns
returns c = valid_defaults c.valid_defaults.ensures
