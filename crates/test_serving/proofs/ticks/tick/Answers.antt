use Rattle.api_calls.specs.Item.{note, Claim}
use Rattle.test_serving.proofs.Ticking.{ticked_once}
use Rattle.test_serving.proofs.ticks.tick.Goals as goal

pub returns-clause-ticked : goal.returns-clause-ticked
returns-clause-ticked g c =
    let t = c.take-n.ensures.taken in
    ticked_once c.args.pass.now.seat.me.0 c.take-n.new.pass.seat.me.0 c.append.new.pass.seat.me.0 c.give.new.pass.seat.me.0 (note (Claim 0)) c.args.pass.now.numbered t.0.0 t.0.1 t.4 c.append.ensures.added c.give.ensures.given
