use Rattle.std.proofs.Common.{◌≡◌}
use Rattle.turn_cell.proofs.turn.Turn.draw_asleep.Given as goal

abbrev pub invariant-loop-wake : goal.invariant-loop-wake
invariant-loop-wake g l = (l.seat.me ≡ l.initial.seat.me) × (l.seat.table_id ≡ l.initial.seat.table_id)
