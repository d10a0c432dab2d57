use Rattle.std.proofs.Common.{refl}
use Rattle.keep_laws.specs.Keys.{spoke_prefix}
use Rattle.spoke_keep.proofs.keys.spoke_prefix.Goals as goal

pub returns : goal.returns
unfolding spoke_prefix
returns c = refl
