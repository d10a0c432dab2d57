use Rattle.std.proofs.Common.{◌≡◌, ◌≤◌, Some}
use Rattle.std.specs.Prelude.{IfSome}
use Rattle.kube_meta.specs.Shapes.{shaped}
use Rattle.kube_meta.specs.View.{object_of}
use Rattle.turn_cell.specs.Turns.{IsResting}
use Rattle.api_calls.specs.Item.{items}
use Rattle.api_calls.specs.Meaning.{Request}
use Rattle.shared_api.specs.Base.{server_of}
use Rattle.shared_api.specs.inner.WriteTurns.{Rested}
use Rattle.write_texts.specs.Replacing.{GoesOver}
use Rattle.shared_api.specs.declared.cell.CoreBase.{CoreBase}
use Rattle.shared_api.proofs.replace.enter.Given as goal

abbrev pub invariant-loop : goal.invariant-loop
invariant-loop g l = record {
  own : l.pass.seat.table_id ≡ l.initial.pass.seat.table_id;
  rest : IsResting l.pass.seat.me.0;
  rises : g.V.Tool.Tool.faults l.initial.tool ≤ g.V.Tool.Tool.faults l.tool;
  known : (b : CoreBase g.row.V.Denot) (q : Request) → l.initial.pass.seat.me.0.base ≡ Some b
      → GoesOver (g.V.Versions.meaning b.versions) q l.key (items l.initial.pass.seat.me.0.seen) l.change l.first
      → Rested (server_of g.V.Versions.meaning b) l.initial.pass.seat.me.0 l.pass.seat.me.0
      × GoesOver (g.V.Versions.meaning b.versions) q l.key (items l.pass.seat.me.0.seen) l.change l.storage;
  shape : IfSome l.shape (λ p. (g.V.Versions.meaning l.lent.versions.now).pair l.storage (object_of l.change.hub) (shaped p (object_of l.change.hub)));
  next : (goal.iterator-loop g).can_next l.iterator';
  finite : (goal.iterator-loop g).is_finite l.iterator';
}
