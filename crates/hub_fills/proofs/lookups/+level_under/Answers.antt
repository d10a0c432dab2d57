use Rattle.std.proofs.Common.{arith}
use Rattle.hub_cells.specs.SeenFit.{inners_of}
use Rattle.hub_fills.proofs.Under.{under_none}
use Rattle.hub_fills.proofs.lookups.+level_under.Goals as goal

pub returns-in-None : goal.returns-in-None
returns-in-None t c =
    under_none c.args.path.now c.args.i c.index-path-i.result c.as_str.result.now c.args.f.now.level (inners_of c.inner.result.now) (omega (arith, c.requires, c.if-i-path.false)) c.index-path-i.is c.as_str.ensures c.inner.ensures.inner c.in-None.ensures
