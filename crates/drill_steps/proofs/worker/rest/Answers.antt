use Rattle.std.proofs.Common.{sym, subst}
use Rattle.api_calls.specs.Item.{items}
use Rattle.shared_api.specs.Base.{server_of}
use Rattle.drill_steps.specs.inner.Drilled.{point_of}
use Rattle.drill_steps.specs.Steps.{Point, Rests, last_turn, one_more_turn, turn_at}
use Rattle.drill_steps.proofs.Opened.{is_idle, not_idle}
use Rattle.drill_steps.proofs.worker.rest.Goals as goal

pub returns-then-is_idle-clause-rests : goal.returns-then-is_idle-clause-rests
returns-then-is_idle-clause-rests g c =
    let s = server_of g.V.Versions.meaning c.args.api.now.base in
    let p = point_of c.loop.progress (items c.loop.pass.view.seen) in
    let q = point_of c.turn.new.progress (items c.turn.new.pass.view.seen) in
    c.loop.invariant.goes_on q
    (last_turn p q (is_idle c.in_ok-step.step (turn_at s p).decision.answer c.in_ok-step.ensures.step (c.is_idle.ensures.yes c.if-is_idle.true)) c.in_ok-step.ensures.turned)

pub loop-preserved : goal.loop-preserved
loop-preserved g c =
    let s = server_of g.V.Versions.meaning c.args.api.now.base in
    let p = point_of c.loop.progress (items c.loop.pass.view.seen) in
    record {
      of = c.turn.ensures.of;
      alone = c.turn.ensures.alone;
      goes_on = λ q rests. c.loop.invariant.goes_on q
          (one_more_turn p q (not_idle c.in_ok-step.step (turn_at s p).decision.answer c.in_ok-step.ensures.step (c.is_idle.ensures.no c.if-is_idle.false))
          (subst (λ (x : Point). Rests s x q) c.in_ok-step.ensures.turned rests));
      next = tt;
      finite = tt;
    }
