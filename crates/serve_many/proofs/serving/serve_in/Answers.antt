use Rattle.std.proofs.Common.{rules, ◌≡◌, [], map, List, Option, ap, sym, subst}
use Rattle.edge_io.specs.Connections.{Origin}
use Rattle.shared_api.specs.declared.cell.CoreBase.{CoreBase}
use Rattle.turn_cell.specs.declared.view.View.{View}
use Rattle.serve_spans.specs.inner.Keeping.{Going, Job}
use Rattle.serve_spans.proofs.Going.{going_starts, going_ends}
use Rattle.serve_many.specs.Answered.{IsAnswered, front_of, sides}
use Rattle.shared_api.specs.Base.{server_of}
use Rattle.serve_many.specs.Helping.{turns_between}
use Rattle.serve_many.proofs.Rounds.{rounds_from, rounds_on}
use Rattle.serve_many.proofs.serving.serve_in.Goals as goal

pub returns-clause-served : goal.returns-clause-served
returns-clause-served g c n named =
    let told = g.C.Clock.told c.args.clock.now in
    let f = front_of g.V.Versions.meaning c.args.api.now.base told in
    let v0 = c.args.pass.now.view in
    let h0 = g.A.Ears.origins c.args.ears.now in
    let g0 = g.A.Ears.returned c.args.ears.now in
    let later = g.A.Ears.origins c.accept_all-done.new.ears in
    let back = g.A.Ears.returned c.join_all.new.ears in
    let crew : List (View (CoreBase g.row.V.Denot)) = map (λ h. h.running.handle.promise.job.value.pass.view) c.hire-idle.new.crew.items in
    let empty : c.in-Ok.running.items ≡ [] = search rules in
    let none : map (λ h. (h.handle.promise.job.value.pass.view, g.A.In.Source.origin h.handle.promise.job.value.input)) c.in-Ok.running.items ≡ [] = ap (λ xs. map (λ h. (h.handle.promise.job.value.pass.view, g.A.In.Source.origin h.handle.promise.job.value.input)) xs) empty in
    let asked = c.args.workers in
    let idle = c.hire-idle.result in
    let hired = c.hire-idle.ensures.going told n v0 h0 g0 [] 0 h0 g0 (going_starts (IsAnswered g.V.Tool.Tool.faults (sides g.A.In.Source.left g.A.In.Source.most g.A.Out.Sink.written g.A.Out.Sink.flushed) f) n 0 0 v0 h0 g0 named) in
    let begun = c.accept_all-done.ensures.going n asked v0 h0 g0 crew
    (subst (λ (js : List (Job (CoreBase g.row.V.Denot))). Going (IsAnswered g.V.Tool.Tool.faults (sides g.A.In.Source.left g.A.In.Source.most g.A.Out.Sink.written g.A.Out.Sink.flushed) f) n asked idle v0 h0 g0 crew js c.hire-idle.new.pass.view 0 h0 g0) (sym none) hired) in
    let joined = c.join_all.ensures.going n asked idle v0 h0 g0 crew begun.0 later begun.3 in
    let s = server_of g.V.Versions.meaning c.args.api.now.base in
    let w = c.hire-idle.new.pass.view in
    let y = c.join_all.new.pass.view in
    let z = c.dismiss.new.pass.view in
    let rounds = rounds_from s turns_between idle v0 w begun.0 z c.hire-idle.ensures.goes (rounds_on s turns_between idle w begun.0 y z (rounds_on s turns_between idle w begun.0 c.accept_all-done.new.pass.view y begun.2 c.join_all.ensures.goes) c.dismiss.ensures.goes) in
    let last = c.dismiss.ensures.going told n asked idle v0 h0 g0 [] begun.0 later back joined in (
      begun.0,
      begun.1,
      rounds,
      going_ends (IsAnswered g.V.Tool.Tool.faults (sides g.A.In.Source.left g.A.In.Source.most g.A.Out.Sink.written g.A.Out.Sink.flushed) f) n asked idle v0 h0 g0 c.dismiss.new.pass.view begun.0 (g.A.Ears.origins c.join_all.new.ears) back named
          (subst (λ (hs : Option (List Origin)). Going (IsAnswered g.V.Tool.Tool.faults (sides g.A.In.Source.left g.A.In.Source.most g.A.Out.Sink.written g.A.Out.Sink.flushed) f) n asked idle v0 h0 g0 [] [] c.dismiss.new.pass.view begun.0 hs back) (sym c.join_all.ensures.origins) last),
    )
