use Rattle.std.proofs.Common.{Some}
use Rattle.run_laws.proofs.Moving.{none-works}
use Rattle.run_laws.proofs.lists.all_is_requested.Goals as goal

pub returns : goal.returns
returns g c = λ k l start count h0 handed g0 given s i x at. none-works s.spans (Some 0) s.idle s.workers s.spared i x s.hired s.few (s.owned i x at)
