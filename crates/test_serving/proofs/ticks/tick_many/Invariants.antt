use Rattle.std.proofs.Common.{◌≡◌}
use Rattle.turn_cell.specs.Turns.{IsResting}
use Rattle.test_serving.specs.Ticks.{Ticked}
use Rattle.test_serving.proofs.ticks.tick_many.Given as goal

abbrev pub invariant-loop-i : goal.invariant-loop-i
invariant-loop-i g l = record {
  own : l.pass.seat.table_id ≡ l.turn.table.shared.table_id;
  rest : IsResting l.pass.seat.me.0;
  ticked : Ticked l._i l.initial.pass.seat.me.0 l.pass.seat.me.0;
}
