use Rattle.std.proofs.Common.{ℕ, ◌≤◌, List, Option}
use Rattle.edge_io.specs.Connections.{Origin, Ending}
use Rattle.shared_api.specs.Passes.{IsOf}
use Rattle.shared_api.specs.declared.cell.CoreBase.{CoreBase}
use Rattle.turn_cell.specs.declared.view.View.{View}
use Rattle.serve_spans.specs.inner.Keeping.{Going, Job}
use Rattle.shared_api.specs.Base.{server_of}
use Rattle.serve_many.specs.Helping.{Goes, HelpsOut, turns_between}
use Rattle.serve_many.specs.Answered.{IsAnswered, front_of, sides}
use Rattle.serve_many.proofs.accepting.help_out.Given as goal

abbrev pub invariant-loop-i : goal.invariant-loop-i
invariant-loop-i g l = record {
  of : IsOf g.V.Versions.meaning l.api l.pass;
  goes : Goes l.initial.pass.view l.pass.view;
  helps : HelpsOut (server_of g.V.Versions.meaning l.api.base) turns_between (g.V.Tool.Tool.faults l.initial.pass.tool) l.initial.pass.view l._i (g.V.Tool.Tool.faults l.pass.tool) l.pass.view;
  going : (told : Option (List ℕ)) (n asked : ℕ) (v0 : View (CoreBase g.row.V.Denot)) (h0 : Option (List Origin)) (g0 : Option (List Ending)) (crew : List (View (CoreBase g.row.V.Denot))) (jobs : List (Job (CoreBase g.row.V.Denot))) (count : ℕ) (handed : Option (List Origin)) (given : Option (List Ending))
      → Going (IsAnswered g.V.Tool.Tool.faults (sides g.A.In.Source.left g.A.In.Source.most g.A.Out.Sink.written g.A.Out.Sink.flushed) (front_of g.V.Versions.meaning l.api.base told)) n asked l.idle v0 h0 g0 crew jobs l.initial.pass.view count handed given
      → Going (IsAnswered g.V.Tool.Tool.faults (sides g.A.In.Source.left g.A.In.Source.most g.A.Out.Sink.written g.A.Out.Sink.flushed) (front_of g.V.Versions.meaning l.api.base told)) n asked l.idle v0 h0 g0 crew jobs l.pass.view count handed given;
}
