use Rattle.rule_reading.proofs.Places.{in_order}
use Rattle.rule_reading.proofs.set.read_spokes.Goals as goal

pub read_spokes_of-requires : goal.read_spokes_of-requires
read_spokes_of-requires c = rw c.as_slice.ensures.value (in_order _ c.as_slice.ensures.sound)
