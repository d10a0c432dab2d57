use Rattle.std.proofs.Common.{ap, ◌∙◌, arith}
use Rattle.turn_cell.specs.declared.view.Stage.TheVariants.{Waits}
use Rattle.turn_cell.specs.Turns.{is_resting}
use Rattle.turn_cell.specs.Views.{set_stage}
use Rattle.turn_cell.proofs.turn.Turn.draw_asleep.Goals as goal

pub peek-rung-requires : goal.peek-rung-requires
peek-rung-requires g c = omega (arith, c.args.self.now.sized.0)

pub draw_served-requires-clause-own : goal.draw_served-requires-clause-own
draw_served-requires-clause-own g c = c.loop-wake.invariant.1 ∙ c.requires.own

pub draw_served-requires-clause-rest : goal.draw_served-requires-clause-rest
draw_served-requires-clause-rest g c =
    ap (λ m. is_resting m.0.stage) c.loop-wake.invariant.0 ∙ c.requires.rest

pub returns-in-Some-clause-own : goal.returns-in-Some-clause-own
returns-in-Some-clause-own g c = c.draw_served.ensures.own ∙ c.loop-wake.invariant.1

pub returns-in-Some-clause-drawn : goal.returns-in-Some-clause-drawn
returns-in-Some-clause-drawn g c =
    c.in-Some.ensures.drawn ∙ ap (λ m. (set_stage m.0 m.0.seen (Waits c.in-Some.ticket), m.1)) c.loop-wake.invariant.0

pub park-requires : goal.park-requires
park-requires g c = omega (arith, c.args.self.now.sized.0)

pub loop-wake-preserved : goal.loop-wake-preserved
loop-wake-preserved g c =
    (c.in_default.ensures.drawn ∙ c.loop-wake.invariant.0, c.draw_served.ensures.own ∙ c.loop-wake.invariant.1)

pub draw_next-requires-clause-own : goal.draw_next-requires-clause-own
draw_next-requires-clause-own g c = c.loop-wake.invariant.1 ∙ c.requires.own

pub draw_next-requires-clause-rest : goal.draw_next-requires-clause-rest
draw_next-requires-clause-rest g c =
    ap (λ m. is_resting m.0.stage) c.loop-wake.invariant.0 ∙ c.requires.rest

pub returns-clause-own : goal.returns-clause-own
returns-clause-own g c = c.draw_next.ensures.own ∙ c.loop-wake.invariant.1

pub returns-clause-drawn : goal.returns-clause-drawn
returns-clause-drawn g c =
    c.draw_next.ensures.drawn ∙ ap (λ m. (set_stage m.0 m.0.seen (Waits c.draw_next.result), m.1)) c.loop-wake.invariant.0
