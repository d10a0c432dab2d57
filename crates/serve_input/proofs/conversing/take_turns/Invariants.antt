use Rattle.api_calls.specs.Item.{items}
use Rattle.shared_api.specs.Base.{server_of}
use Rattle.shared_api.specs.Passes.{IsOf}
use Rattle.http_front.specs.Steps.{IsSameBut}
use Rattle.serve_input.specs.Conversed.{TakesTurns}
use Rattle.serve_input.proofs.conversing.take_turns.Given as goal

abbrev pub invariant-loop-turn : goal.invariant-loop-turn
invariant-loop-turn g l = record {
  of : IsOf g.V.Versions.meaning l.api l.pass;
  took : TakesTurns (server_of g.V.Versions.meaning l.api.base) (record { log = items l.initial.pass.view.seen; claim = l.initial.worker.claim }) l._turn
      (record { log = items l.pass.view.seen; claim = l.worker.claim });
  same : IsSameBut l.initial.pass.view l.pass.view;
}
