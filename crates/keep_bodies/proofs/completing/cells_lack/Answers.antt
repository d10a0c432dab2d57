use Rattle.std.proofs.Common.{sym, ◌∙◌, arith}
use Rattle.keep_bodies.proofs.Lacking.{cells_lack_all}
use Rattle.keep_bodies.proofs.completing.cells_lack.Goals as goal

pub returns-then-i-values : goal.returns-then-i-values
returns-then-i-values c =
    sym (cells_lack_all c.args.cells.now c.args.values.now c.loop-i.i c.args.x.now (omega (arith, c.if-i-values.true))) ∙ c.loop-i.invariant
