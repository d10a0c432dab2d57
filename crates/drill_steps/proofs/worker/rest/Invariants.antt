use Rattle.api_calls.specs.Item.{items}
use Rattle.turn_cell.specs.Views.{IsAlone}
use Rattle.shared_api.specs.Base.{server_of}
use Rattle.shared_api.specs.Passes.{IsOf}
use Rattle.drill_steps.specs.inner.Drilled.{point_of}
use Rattle.drill_steps.specs.Steps.{Point, Rests}
use Rattle.drill_steps.proofs.worker.rest.Given as goal

-- turns that rest from here on rest from the first one on
abbrev pub invariant-loop : goal.invariant-loop
invariant-loop g l = record {
  of : IsOf g.V.Versions.meaning l.api l.pass;
  alone : IsAlone l.pass.view;
  goes_on : (q : Point) → Rests (server_of g.V.Versions.meaning l.api.base) (point_of l.progress (items l.pass.view.seen)) q
      → Rests (server_of g.V.Versions.meaning l.api.base) (point_of l.initial.progress (items l.initial.pass.view.seen)) q;
  next : (goal.iterator-loop g).can_next l.iterator';
  finite : (goal.iterator-loop g).is_finite l.iterator';
}
