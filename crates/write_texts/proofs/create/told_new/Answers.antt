use Rattle.std.proofs.Common.{ap}
use Rattle.api_core.specs.Ends.{create_end}
use Rattle.api_core.specs.declared.ends.CreateEnd.{CreateEnd}
use Rattle.write_texts.proofs.create.told_new.Goals as goal

pub open-text-requires-clause-born : goal.open-text-requires-clause-born
open-text-requires-clause-born g c = c.requires.born c.in-Done.rv (ap (λ (e : CreateEnd). create_end e) c.in-Done.is)
