use Rattle.std.proofs.Common.{ap}
use Rattle.api_core.specs.Ends.{release_end}
use Rattle.api_core.specs.declared.ends.ReleaseEnd.{ReleaseEnd}
use Rattle.write_texts.proofs.replace.told_release.Goals as goal

pub open-text-requires-clause-born : goal.open-text-requires-clause-born
open-text-requires-clause-born g c = c.requires.born c.in-Done.rv c.in-Done.born (ap (λ (e : ReleaseEnd). release_end e) c.in-Done.is)
