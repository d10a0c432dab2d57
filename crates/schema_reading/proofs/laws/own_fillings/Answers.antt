use Rattle.struct_schema.specs.laws.Own.{stays_filled, filled_stays}
use Rattle.schema_reading.proofs.laws.own_fillings.Goals as goal

pub returns : goal.returns
returns c = record { stays = stays_filled; filled = filled_stays }
