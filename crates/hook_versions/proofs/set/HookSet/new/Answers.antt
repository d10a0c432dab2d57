use Rattle.std.proofs.Common.{arith}
use Rattle.hook_versions.proofs.Known.{sound_so}
use Rattle.hook_versions.proofs.set.HookSet.new.Goals as goal

pub invariant_of-result-clause-sound : goal.invariant_of-result-clause-sound
invariant_of-result-clause-sound g c = sound_so c.args.set g.C.Converter.HONEST g.C.Converter.turned c.versions.ensures.whole
