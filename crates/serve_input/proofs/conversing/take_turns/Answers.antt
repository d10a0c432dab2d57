use Rattle.std.proofs.Common.{refl}
use Rattle.api_calls.specs.Item.{items}
use Rattle.shared_api.specs.Base.{server_of}
use Rattle.http_front.proofs.Calling.{same_but, same_on}
use Rattle.serve_input.specs.Conversed.{At, no_turn, one_more}
use Rattle.serve_input.proofs.Alone.{alone_on, turn_alone}
use Rattle.serve_input.proofs.conversing.take_turns.Goals as goal

pub loop-turn-init : goal.loop-turn-init
loop-turn-init g c = record { of = c.requires.of; took = no_turn; same = refl }

pub loop-turn-preserved : goal.loop-turn-preserved
loop-turn-preserved g c =
    let answer = c.worker_turn-came.ensures.answer in
    let mid : At = record { log = items c.loop-turn.pass.view.seen; claim = c.loop-turn.worker.claim } in
    let after : At = record { log = items c.worker_turn-came.new.pass.view.seen; claim = c.worker_turn-came.new.w.claim } in
    record {
      of = c.worker_turn-came.ensures.of;
      took = one_more c.loop-turn._turn mid after c.loop-turn.invariant.took
          (turn_alone (server_of g.V.Versions.meaning c.args.api.now.base) _ c.loop-turn.pass.view c.worker_turn-came.new.pass.view c.loop-turn.worker.claim c.worker_turn-came.new.w.claim
          c.worker_turn-came.result answer.0 (alone_on c.args.pass.now.view c.loop-turn.pass.view c.loop-turn.invariant.same c.requires.alone) answer.1 c.worker_turn-came.ensures.asked answer.2);
      same = same_on c.args.pass.now.view c.loop-turn.pass.view c.worker_turn-came.new.pass.view c.loop-turn.invariant.same
          (same_but c.loop-turn.pass.view c.worker_turn-came.new.pass.view answer.2.log answer.2.item answer.2.turned);
    }
