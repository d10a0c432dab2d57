use Rattle.std.proofs.Common.{◌≡◌, ◌<◌, ◌≤◌, Some}
use Rattle.std.specs.Prelude.{IfSome}
use Rattle.kube_meta.specs.Shapes.{shaped}
use Rattle.kube_meta.specs.View.{object_of}
use Rattle.turn_cell.specs.Turns.{IsResting}
use Rattle.shared_api.specs.Base.{server_of}
use Rattle.shared_api.specs.inner.WriteTurns.{Rested}
use Rattle.shared_api.specs.declared.cell.CoreBase.{CoreBase}
use Rattle.shared_api.proofs.create.enter.Given as goal

abbrev pub invariant-loop : goal.invariant-loop
invariant-loop g l = record {
  own : l.pass.seat.table_id ≡ l.initial.pass.seat.table_id;
  rest : IsResting l.pass.seat.me.0;
  rises : g.V.Tool.Tool.faults l.initial.tool ≤ g.V.Tool.Tool.faults l.tool;
  rested : (b : CoreBase g.row.V.Denot) → l.initial.pass.seat.me.0.base ≡ Some b
      → Rested (server_of g.V.Versions.meaning b) l.initial.pass.seat.me.0 l.pass.seat.me.0 × (l.storage < (g.V.Versions.meaning b.versions).count);
  shape : IfSome l.shape (λ p. (g.V.Versions.meaning l.lent.versions.now).pair l.storage (object_of l.new.hub) (shaped p (object_of l.new.hub)));
  next : (goal.iterator-loop g).can_next l.iterator';
  finite : (goal.iterator-loop g).is_finite l.iterator';
}
