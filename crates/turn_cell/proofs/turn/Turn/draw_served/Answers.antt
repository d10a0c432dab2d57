use Rattle.std.proofs.Common.{rules}
use Rattle.turn_cell.proofs.Lists.{rests}
use Rattle.turn_cell.proofs.Keeps.{draws}
use Rattle.turn_cell.proofs.turn.Turn.draw_served.Goals as goal

pub compare_exchange-found-requires : goal.compare_exchange-found-requires
compare_exchange-found-requires g c =
    (search rules, search rules, draws g.T.Standing.stands g.T.Standing.base _ _ _ _ (rests c.args.seat.now.me.0.stage c.requires.rest) c.if-served-ge-LAST_TICKET.false)
