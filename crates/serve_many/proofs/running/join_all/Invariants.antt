use Rattle.std.proofs.Common.{ℕ, ◌≡◌, List, All, map, Option, vec_len}
use Rattle.edge_io.specs.Connections.{Origin, Ending}
use Rattle.shared_api.specs.Passes.{IsOf}
use Rattle.shared_api.specs.declared.cell.CoreBase.{CoreBase}
use Rattle.turn_cell.specs.declared.view.View.{View}
use Rattle.serve_spans.specs.inner.Keeping.{Going}
use Rattle.serve_many.specs.Answered.{IsAnswered, front_of, sides}
use Rattle.serve_many.specs.Helping.{Goes}
use Rattle.serve_many.proofs.running.join_all.Given as goal

abbrev pub invariant-loop-link : goal.invariant-loop-link
invariant-loop-link g l = record {
  of : IsOf g.V.Versions.meaning l.api l.pass;
  links : All (λ h. IsOf g.V.Versions.meaning l.api h.handle.promise.job.value.pass × (g.C.Clock.told h.handle.promise.job.value.clock.now ≡ g.C.Clock.told l.clock)) l.running.items;
  goes : Goes l.initial.pass.view l.pass.view;
  hears : (place : List ℕ) → g.A.Ears.hears l.initial.ears place → g.A.Ears.hears l.ears place;
  faults : g.A.Ears.faults l.ears ≡ g.A.Ears.faults l.initial.ears;
  origins : g.A.Ears.origins l.ears ≡ g.A.Ears.origins l.initial.ears;
  going : (n asked idle : ℕ) (v0 : View (CoreBase g.row.V.Denot)) (h0 : Option (List Origin)) (g0 : Option (List Ending)) (crew : List (View (CoreBase g.row.V.Denot))) (count : ℕ) (handed : Option (List Origin))
      → Going (IsAnswered g.V.Tool.Tool.faults (sides g.A.In.Source.left g.A.In.Source.most g.A.Out.Sink.written g.A.Out.Sink.flushed) (front_of g.V.Versions.meaning l.api.base (g.C.Clock.told l.clock))) n asked idle v0 h0 g0 crew (map (λ h. (h.handle.promise.job.value.pass.view, g.A.In.Source.origin h.handle.promise.job.value.input)) l.initial.running.items) l.initial.pass.view count handed (g.A.Ears.returned l.initial.ears)
      → Going (IsAnswered g.V.Tool.Tool.faults (sides g.A.In.Source.left g.A.In.Source.most g.A.Out.Sink.written g.A.Out.Sink.flushed) (front_of g.V.Versions.meaning l.api.base (g.C.Clock.told l.clock))) n asked idle v0 h0 g0 crew (map (λ h. (h.handle.promise.job.value.pass.view, g.A.In.Source.origin h.handle.promise.job.value.input)) l.running.items) l.pass.view count handed (g.A.Ears.returned l.ears);
}

abbrev pub decreases-loop-link : goal.decreases-loop-link
decreases-loop-link g l = vec_len l.running
