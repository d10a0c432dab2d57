use Rattle.std.proofs.Common.{◌≡◌, ℕ, ◌≤◌, Some}
use Rattle.std.specs.Io.KnownBytes.{prepend_known}
use Rattle.http_wire.specs.declared.limits.TheConstants.{MOST_REQUESTS}
use Rattle.shared_api.specs.Base.{server_of}
use Rattle.shared_api.specs.Passes.{IsOf}
use Rattle.http_front.specs.Steps.{StepAnswers, IsSameBut, Quiet, point_of}
use Rattle.http_front.specs.Paced.{InTurn}
use Rattle.http_front.proofs.Talking.{SoFar}
use Rattle.http_front.proofs.link.serve_requests.Given as goal

abbrev pub invariant-loop-count : goal.invariant-loop-count
invariant-loop-count g l = record {
  of : IsOf g.V.Versions.meaning l.api l.pass;
  so_far : (n : ℕ) → l.fn.pass.view.number ≡ Some n
      → SoFar (StepAnswers (record { server = server_of g.V.Versions.meaning l.api.base; told = g.C.Clock.told l.clock }) n)
      (point_of g.V.Tool.Tool.faults l.fn.pass) (point_of g.V.Tool.Tool.faults l.pass) l.count
      (g.S.Source.left l.fn.input) (prepend_known l.inbox.bytes (g.S.Source.left l.input)) (g.K.Sink.written l.fn.output) (g.K.Sink.written l.output);
  paced : (n : ℕ) → l.fn.pass.view.number ≡ Some n
      → InTurn (record { left = g.S.Source.left; written = g.K.Sink.written; flushed = g.K.Sink.flushed }) (StepAnswers (record { server = server_of g.V.Versions.meaning l.api.base; told = g.C.Clock.told l.clock }) n) (g.S.Source.most l.fn.input)
      (point_of g.V.Tool.Tool.faults l.fn.pass) (record { held = l.fn.inbox.bytes; input = l.fn.input; output = l.fn.output })
      (point_of g.V.Tool.Tool.faults l.pass) (record { held = l.inbox.bytes; input = l.input; output = l.output });
  most : g.S.Source.most l.input ≡ g.S.Source.most l.fn.input;
  same : IsSameBut l.fn.pass.view l.pass.view;
  quiet : (n : ℕ) → l.fn.pass.view.number ≡ Some n → Quiet n l.fn.pass.view l.pass.view;
  flushed : g.K.Sink.flushed l.fn.output ≡ g.K.Sink.written l.fn.output → g.K.Sink.flushed l.output ≡ g.K.Sink.written l.output;
  few : l.count ≤ MOST_REQUESTS;
  read_later : g.S.Source.faults l.fn.input ≤ g.S.Source.faults l.input;
  write_later : g.K.Sink.faults l.fn.output ≤ g.K.Sink.faults l.output;
  origin : g.S.Source.origin l.input ≡ g.S.Source.origin l.fn.input;
  number : g.K.Sink.number l.output ≡ g.K.Sink.number l.fn.output;
}
