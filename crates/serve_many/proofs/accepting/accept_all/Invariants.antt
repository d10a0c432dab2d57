use Rattle.std.proofs.Common.{ℕ, ◌≡◌, ◌≤◌, List, All, map, Option, vec_len, vec_capacity}
use Rattle.edge_io.specs.Connections.{Origin, Ending}
use Rattle.shared_api.specs.Passes.{IsOf}
use Rattle.shared_api.specs.declared.cell.CoreBase.{CoreBase}
use Rattle.turn_cell.specs.declared.view.View.{View}
use Rattle.serve_spans.specs.inner.Keeping.{Going}
use Rattle.serve_many.specs.Answered.{IsAnswered, front_of, sides}
use Rattle.serve_many.specs.Ends.{most_running}
use Rattle.shared_api.specs.Base.{server_of}
use Rattle.serve_many.specs.Helping.{Rounds, turns_between}
use Rattle.serve_many.specs.Jobs.{IsLeft}
use Rattle.serve_many.proofs.accepting.accept_all.Given as goal

abbrev pub invariant-loop : goal.invariant-loop
invariant-loop g l = record {
  of : IsOf g.V.Versions.meaning l.api l.pass;
  links : All (λ h. IsOf g.V.Versions.meaning l.api h.handle.promise.job.value.pass × (g.C.Clock.told h.handle.promise.job.value.clock.now ≡ g.C.Clock.told l.clock)) l.running.items;
  room : vec_len l.running ≤ most_running;
  capacity : most_running ≤ vec_capacity l.running;
  hears : (place : List ℕ) → g.A.Ears.hears l.initial.ears place → g.A.Ears.hears l.ears place;
  later : g.A.Ears.faults l.initial.ears ≤ g.A.Ears.faults l.ears;
  going : (n asked : ℕ) (v0 : View (CoreBase g.row.V.Denot)) (h0 : Option (List Origin)) (g0 : Option (List Ending)) (crew : List (View (CoreBase g.row.V.Denot)))
      → Going (IsAnswered g.V.Tool.Tool.faults (sides g.A.In.Source.left g.A.In.Source.most g.A.Out.Sink.written g.A.Out.Sink.flushed) (front_of g.V.Versions.meaning l.api.base (g.C.Clock.told l.clock))) n asked l.idle v0 h0 g0 crew (map (λ h. (h.handle.promise.job.value.pass.view, g.A.In.Source.origin h.handle.promise.job.value.input)) l.initial.running.items) l.initial.pass.view 0 (g.A.Ears.origins l.initial.ears) (g.A.Ears.returned l.initial.ears)
      → (count : ℕ) × IsLeft l.fn.connections count l.left
      × Rounds (server_of g.V.Versions.meaning l.api.base) turns_between l.idle l.initial.pass.view count l.pass.view
      × Going (IsAnswered g.V.Tool.Tool.faults (sides g.A.In.Source.left g.A.In.Source.most g.A.Out.Sink.written g.A.Out.Sink.flushed) (front_of g.V.Versions.meaning l.api.base (g.C.Clock.told l.clock))) n asked l.idle v0 h0 g0 crew (map (λ h. (h.handle.promise.job.value.pass.view, g.A.In.Source.origin h.handle.promise.job.value.input)) l.running.items) l.pass.view count (g.A.Ears.origins l.ears) (g.A.Ears.returned l.ears);
}
