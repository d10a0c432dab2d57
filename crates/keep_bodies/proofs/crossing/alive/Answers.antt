use Rattle.std.proofs.Common.{sym, ◌∙◌}
use Rattle.hub_cells.specs.Seen.{side, cell, tuple}
use Rattle.keep_bodies.proofs.Tests.{alive_not, alive_is}
use Rattle.keep_bodies.proofs.crossing.alive.Goals as goal

pub cross-requires : goal.cross-requires
cross-requires c =
    c.allowed_crosses.ensures (cell c.args.c.now) (side c.other-there.result) (tuple c.args.kept.now) c.requires (sym c.allows-allowed.ensures ∙ c.if-not-allowed.false)

pub returns-then-crossed : goal.returns-then-crossed
returns-then-crossed c =
    alive_not (side c.args.from) (side c.other-there.result) (cell c.args.c.now) (tuple c.args.beside.now) (tuple c.args.kept.now) (tuple c.in_ok-crossed.crossed.tuple) c.in_ok-crossed.crossed.matched c.other-there.ensures c.if-crossed.true c.in_ok-crossed.ensures

pub returns : goal.returns
returns c =
    alive_is (side c.args.from) (side c.other-there.result) (cell c.args.c.now) (tuple c.args.beside.now) (tuple c.args.kept.now) (tuple c.in_ok-crossed.crossed.tuple) c.in_ok-crossed.crossed.matched c.tuple_same.result c.other-there.ensures (sym c.allows-allowed.ensures ∙ c.if-not-allowed.false) c.if-crossed.false c.in_ok-crossed.ensures c.tuple_same.ensures
