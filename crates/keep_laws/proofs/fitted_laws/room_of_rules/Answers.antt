use Rattle.keep_laws.proofs.Room.{room_of}
use Rattle.keep_laws.proofs.fitted_laws.room_of_rules.Goals as goal

pub returns : goal.returns
returns c = room_of
