use Rattle.api_calls.specs.Item.{items}
use Rattle.drill_steps.specs.inner.Drilled.{point_of}
use Rattle.drill_steps.specs.Steps.{no_step, one_more_step}
use Rattle.drill_steps.proofs.drilling.take_steps.Goals as goal

pub loop-step-init : goal.loop-step-init
loop-step-init g c = record { of = c.requires.of; alone = c.requires.alone; took = no_step }

pub loop-step-preserved : goal.loop-step-preserved
loop-step-preserved g c = record {
  of = c.take_step.ensures.of;
  alone = c.take_step.ensures.alone;
  took = one_more_step c.loop-step._step (point_of c.loop-step.progress (items c.loop-step.pass.view.seen)) (point_of c.take_step.new.progress (items c.take_step.new.pass.view.seen))
      c.loop-step.invariant.took c.in_ok-take_step.ensures.takes;
}
