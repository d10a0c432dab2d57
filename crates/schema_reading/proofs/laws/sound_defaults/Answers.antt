use Rattle.schema_reading.proofs.SoundDefaults.{sound_defaults}
use Rattle.schema_reading.proofs.laws.sound_defaults.Goals as goal

pub returns : goal.returns
returns c = sound_defaults
