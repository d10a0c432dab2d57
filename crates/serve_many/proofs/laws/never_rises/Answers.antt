use Rattle.std.proofs.Common.{◌≡◌, ◌+◌, arith}
use Rattle.serve_many.proofs.laws.never_rises.Goals as goal

pub returns : goal.returns
returns g c told n p q rose e h = let counted : 0 ≡ 0 + rose = h.counted in omega (arith, counted)
