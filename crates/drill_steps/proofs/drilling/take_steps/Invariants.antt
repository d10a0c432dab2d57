use Rattle.api_calls.specs.Item.{items}
use Rattle.turn_cell.specs.Views.{IsAlone}
use Rattle.shared_api.specs.Base.{server_of}
use Rattle.shared_api.specs.Passes.{IsOf}
use Rattle.drill_steps.specs.inner.Drilled.{point_of}
use Rattle.drill_steps.specs.Steps.{TakesSteps}
use Rattle.drill_steps.proofs.drilling.take_steps.Given as goal

abbrev pub invariant-loop-step : goal.invariant-loop-step
invariant-loop-step g l = record {
  of : IsOf g.V.Versions.meaning l.api l.pass;
  alone : IsAlone l.pass.view;
  took : TakesSteps (server_of g.V.Versions.meaning l.api.base) (point_of l.initial.progress (items l.initial.pass.view.seen)) l._step (point_of l.progress (items l.pass.view.seen));
}
