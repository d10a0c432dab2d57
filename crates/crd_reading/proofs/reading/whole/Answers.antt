use Rattle.kj_value.specs.Seen.{json}
use Rattle.crd_reading.proofs.Few.{whole_of}
use Rattle.crd_reading.proofs.SoundDefaults.{versions_sound}
use Rattle.crd_reading.proofs.reading.whole.Goals as goal

pub returns : goal.returns
returns c =
    whole_of (json c.args.doc.now) (c.accepts.ensures.is_definition (json c.args.doc.now) c.requires.allowed) c.requires.own_defaults (versions_sound c.sound_defaults.ensures (json c.args.doc.now) c.sound.ensures)
