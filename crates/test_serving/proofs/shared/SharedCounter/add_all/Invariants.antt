use Rattle.std.proofs.Common.{ℕ, ◌≡◌, take, Some, vec_len}
use Rattle.turn_cell.specs.Views.{set_stage}
use Rattle.turn_cell.specs.declared.view.Stage.TheVariants.{Rest}
use Rattle.test_serving.specs.Calls.{ServesAsCounter}
use Rattle.test_serving.proofs.shared.SharedCounter.add_all.Given as goal

abbrev pub invariant-loop-x : goal.invariant-loop-x
invariant-loop-x g l = record {
  own : l.pass.turn.seat.table_id ≡ l.initial.pass.turn.seat.table_id;
  count : vec_len l.ends ≡ l.x-index;
  served : (limit : ℕ) → l.initial.pass.turn.seat.me.0.base ≡ Some limit
      → (l.pass.turn.seat.me.0 ≡ set_stage l.initial.pass.turn.seat.me.0 l.pass.turn.seat.me.0.seen Rest)
      × ServesAsCounter limit l.initial.pass.turn.seat.me.0 l.initial.pass.turn.seat.me.0.seen (take l.x-index l.xs) l.ends.items l.pass.turn.seat.me.0.seen;
}
