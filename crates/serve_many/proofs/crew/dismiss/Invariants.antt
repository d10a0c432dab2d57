use Rattle.std.proofs.Common.{ℕ, List, All, map, Option, vec_len}
use Rattle.edge_io.specs.Connections.{Origin, Ending}
use Rattle.shared_api.specs.Passes.{IsOf}
use Rattle.shared_api.specs.declared.cell.CoreBase.{CoreBase}
use Rattle.turn_cell.specs.declared.view.View.{View}
use Rattle.serve_spans.specs.inner.Keeping.{Going, Job}
use Rattle.serve_many.specs.Answered.{IsAnswered, front_of, sides}
use Rattle.serve_many.specs.Helping.{Goes}
use Rattle.serve_many.proofs.crew.dismiss.Given as goal

abbrev pub invariant-loop-hired-2 : goal.invariant-loop-hired-2
invariant-loop-hired-2 g l = record {
  of : IsOf g.V.Versions.meaning l.api l.pass;
  crew : All (λ h. IsOf g.V.Versions.meaning l.api h.running.handle.promise.job.value.pass) l.crew.items;
  goes : Goes l.fn.pass.view l.pass.view;
  going : (told : Option (List ℕ)) (n asked idle : ℕ) (v0 : View (CoreBase g.row.V.Denot)) (h0 : Option (List Origin)) (g0 : Option (List Ending)) (jobs : List (Job (CoreBase g.row.V.Denot))) (count : ℕ) (handed : Option (List Origin)) (given : Option (List Ending))
      → Going (IsAnswered g.V.Tool.Tool.faults (sides g.A.In.Source.left g.A.In.Source.most g.A.Out.Sink.written g.A.Out.Sink.flushed) (front_of g.V.Versions.meaning l.api.base told)) n asked idle v0 h0 g0 (map (λ h. h.running.handle.promise.job.value.pass.view) l.fn.crew.items) jobs l.fn.pass.view count handed given
      → Going (IsAnswered g.V.Tool.Tool.faults (sides g.A.In.Source.left g.A.In.Source.most g.A.Out.Sink.written g.A.Out.Sink.flushed) (front_of g.V.Versions.meaning l.api.base told)) n asked idle v0 h0 g0 (map (λ h. h.running.handle.promise.job.value.pass.view) l.crew.items) jobs l.pass.view count handed given;
}

abbrev pub decreases-loop-hired-2 : goal.decreases-loop-hired-2
decreases-loop-hired-2 g l = vec_len l.crew
