use Rattle.std.proofs.Common.{◌≡◌}
use Rattle.turn_cell.proofs.turn.Turn.draw_next.Given as goal

abbrev pub invariant-loop : goal.invariant-loop
invariant-loop g l = (l.seat.me ≡ l.initial.seat.me) × (l.seat.table_id ≡ l.initial.seat.table_id) × (goal.iterator-loop g).can_next l.iterator' × (goal.iterator-loop g).is_finite l.iterator'
