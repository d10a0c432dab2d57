use Rattle.std.proofs.Common.{ap}
use Rattle.api_core.specs.Ends.{delete_end}
use Rattle.api_core.specs.declared.ends.DeleteEnd.{DeleteEnd}
use Rattle.write_texts.proofs.delete.told_marked.Goals as goal

pub unreachable-requires : goal.unreachable-requires
unreachable-requires g c = c.requires.keeps c.in-Done.rv c.in-Done.born (ap (λ (e : DeleteEnd). delete_end e) c.in-Done.is)
