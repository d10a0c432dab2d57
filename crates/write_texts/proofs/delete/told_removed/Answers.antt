use Rattle.std.proofs.Common.{ap}
use Rattle.api_core.specs.Ends.{delete_end}
use Rattle.api_core.specs.declared.ends.DeleteEnd.{DeleteEnd}
use Rattle.write_texts.proofs.delete.told_removed.Goals as goal

pub unreachable-requires : goal.unreachable-requires
unreachable-requires g c = c.requires.removes c.in-Kept.rv c.in-Kept.born (ap (λ (e : DeleteEnd). delete_end e) c.in-Kept.is)
