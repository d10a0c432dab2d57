-- Nothing is owed by what isn't honest.
use Rattle.std.proofs.Common.{false, IsTrue, true≢false, sym}

pub never : IsTrue false → ⊥
never e = true≢false (sym e)
