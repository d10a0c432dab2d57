use Rattle.std.proofs.Common.{refl}
use Rattle.record_dump.specs.Dumps.{at_first}
use Rattle.record_dump.specs.Restores.{none_yet}
use Rattle.record_dump.specs.declared.ends.DumpEnd.TheVariants as ends
use Rattle.record_dump.specs.declared.ends.RestoreEnd.TheVariants as restored
use Rattle.record_dump.proofs.Coding.{dump_code, dump_expired, restore_code}
use Rattle.record_dump.proofs.laws.last_code.Goals as goal

pub returns-clause-listed : goal.returns-clause-listed
returns-clause-listed c n es w d some dumped = dump_code n at_first es w (ends.Answer d) d some refl dumped

pub returns-clause-expired : goal.returns-clause-expired
returns-clause-expired c n es w dumped = dump_expired n at_first es w ends.Expired refl dumped

pub returns-clause-posted : goal.returns-clause-posted
returns-clause-posted c n bytes es i d some restores = restore_code n none_yet bytes es (restored.Answer i d) i d some refl restores
