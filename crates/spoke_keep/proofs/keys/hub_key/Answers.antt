use Rattle.std.proofs.Common.{refl}
use Rattle.keep_laws.specs.Keys.{hub_key}
use Rattle.spoke_keep.proofs.keys.hub_key.Goals as goal

pub returns : goal.returns
unfolding hub_key
returns c = refl
