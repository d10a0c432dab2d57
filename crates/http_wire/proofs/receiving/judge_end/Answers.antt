use Rattle.std.proofs.Common.{refl}
use Rattle.http_wire.proofs.ReceivingLemmas.{open_all}
use Rattle.http_wire.proofs.receiving.judge_end.Goals as goal

pub end_of-requires-clause-open : goal.end_of-requires-clause-open
end_of-requires-clause-open c = open_all c.args.held.now _ c.requires.short refl c.in-Open.ensures
