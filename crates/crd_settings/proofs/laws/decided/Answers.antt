use Rattle.crd_settings.specs.Decided.{decides_flags, decides_keep}
use Rattle.crd_settings.proofs.laws.decided.Goals as goal

pub returns : goal.returns
returns c = record { flags = decides_flags; keep = decides_keep }
