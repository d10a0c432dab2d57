use Rattle.std.proofs.Common.{ℕ, ◌≤◌, List, [], All, map, Option, vec_len, vec_capacity}
use Rattle.edge_io.specs.Connections.{Origin, Ending}
use Rattle.shared_api.specs.Passes.{IsOf}
use Rattle.shared_api.specs.declared.cell.CoreBase.{CoreBase}
use Rattle.turn_cell.specs.declared.view.View.{View}
use Rattle.serve_spans.specs.inner.Keeping.{Going, Job}
use Rattle.serve_many.specs.Answered.{IsAnswered, front_of, sides}
use Rattle.serve_many.specs.Helping.{Goes}
use Rattle.serve_many.proofs.crew.hire.Given as goal

abbrev pub invariant-loop-i : goal.invariant-loop-i
invariant-loop-i g l = record {
  of : IsOf g.V.Versions.meaning l.api l.pass;
  room : vec_len l.crew ≤ l._i;
  idle : l.idle ≤ l._i;
  capacity : l.workers ≤ vec_capacity l.crew;
  crew : All (λ h. IsOf g.V.Versions.meaning l.api h.running.handle.promise.job.value.pass) l.crew.items;
  goes : Goes l.initial.pass.view l.pass.view;
  going : (told : Option (List ℕ)) (n : ℕ) (v0 : View (CoreBase g.row.V.Denot)) (h0 : Option (List Origin)) (g0 : Option (List Ending)) (jobs : List (Job (CoreBase g.row.V.Denot))) (count : ℕ) (handed : Option (List Origin)) (given : Option (List Ending))
      → Going (IsAnswered g.V.Tool.Tool.faults (sides g.A.In.Source.left g.A.In.Source.most g.A.Out.Sink.written g.A.Out.Sink.flushed) (front_of g.V.Versions.meaning l.api.base told)) n 0 0 v0 h0 g0 [] jobs l.initial.pass.view count handed given
      → Going (IsAnswered g.V.Tool.Tool.faults (sides g.A.In.Source.left g.A.In.Source.most g.A.Out.Sink.written g.A.Out.Sink.flushed) (front_of g.V.Versions.meaning l.api.base told)) n l._i l.idle v0 h0 g0 (map (λ h. h.running.handle.promise.job.value.pass.view) l.crew.items) jobs l.pass.view count handed given;
}
