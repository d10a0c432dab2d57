use Rattle.std.proofs.Common.{◌≡◌, ◌≤◌}
use Rattle.std.specs.Io.KnownBytes.{prepend_known}
use Rattle.api_calls.specs.Item.{items}
use Rattle.http_wire.specs.declared.limits.TheConstants.{MOST_REQUESTS}
use Rattle.shared_api.specs.Base.{server_of}
use Rattle.shared_api.specs.Passes.{IsOf}
use Rattle.http_front.specs.Steps.{IsSameBut}
use Rattle.http_front.specs.Paced.{InTurn}
use Rattle.http_front.proofs.Talking.{SoFar}
use Rattle.serve_input.specs.Conversed.{AnswersAndWorks, MayRise}
use Rattle.serve_input.proofs.conversing.converse.Given as goal

abbrev pub invariant-loop-count : goal.invariant-loop-count
invariant-loop-count g l = record {
  of : IsOf g.V.Versions.meaning l.api l.pass;
  so_far : SoFar (AnswersAndWorks (record { server = server_of g.V.Versions.meaning l.api.base; told = g.C.Clock.told l.clock }) (MayRise g.V.Tool.Tool.faults) l.turns)
      (record { log = items l.initial.pass.view.seen; claim = l.initial.worker.claim }) (record { log = items l.pass.view.seen; claim = l.worker.claim }) l.count
      (g.S.Source.left l.initial.input) (prepend_known l.inbox.bytes (g.S.Source.left l.input)) (g.K.Sink.written l.initial.output) (g.K.Sink.written l.output);
  paced : InTurn (record { left = g.S.Source.left; written = g.K.Sink.written; flushed = g.K.Sink.flushed })
      (AnswersAndWorks (record { server = server_of g.V.Versions.meaning l.api.base; told = g.C.Clock.told l.clock }) (MayRise g.V.Tool.Tool.faults) l.turns) (g.S.Source.most l.initial.input)
      (record { log = items l.initial.pass.view.seen; claim = l.initial.worker.claim }) (record { held = l.initial.inbox.bytes; input = l.initial.input; output = l.initial.output })
      (record { log = items l.pass.view.seen; claim = l.worker.claim }) (record { held = l.inbox.bytes; input = l.input; output = l.output });
  most : g.S.Source.most l.input ≡ g.S.Source.most l.initial.input;
  same : IsSameBut l.initial.pass.view l.pass.view;
  flushed : g.K.Sink.flushed l.initial.output ≡ g.K.Sink.written l.initial.output → g.K.Sink.flushed l.output ≡ g.K.Sink.written l.output;
  few : l.count ≤ MOST_REQUESTS;
  read_later : g.S.Source.faults l.initial.input ≤ g.S.Source.faults l.input;
  write_later : g.K.Sink.faults l.initial.output ≤ g.K.Sink.faults l.output;
}
