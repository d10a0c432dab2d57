use Rattle.std.proofs.Common.{rules}
use Rattle.turn_cell.proofs.Keeps.{appends, number_is}
use Rattle.turn_cell.proofs.turn.Turn.append.Goals as goal

pub fetch_add-requires : goal.fetch_add-requires
fetch_add-requires g c =
    let p = c.args.pass.now in
    let n = number_is p.seat.me.0.number p.numbered in
    (search rules, search rules, appends g.T.Standing.stands g.T.Standing.base g.E.Names.item _ _ _ _ n.0 c.requires.fresh.1 n.1 p.live)
