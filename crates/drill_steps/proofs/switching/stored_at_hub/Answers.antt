use Rattle.std.proofs.Common.{refl}
use Rattle.std.specs.Fmt.{digits}
use Rattle.drill_steps.specs.Settings.{stored_definition}
use Rattle.drill_steps.proofs.switching.stored_at_hub.Goals as goal

pub returns : goal.returns
unfolding stored_definition digits
returns c = refl
