use Rattle.std.proofs.Common.{rules, ◌≡◌, All, map, List, ◌++◌, ◌∷◌, [], ap, ◌∙◌, subst}
use Rattle.shared_api.specs.Passes.{IsOf}
use Rattle.shared_api.specs.declared.cell.CoreBase.{CoreBase}
use Rattle.turn_cell.specs.declared.view.View.{View}
use Rattle.serve_spans.specs.inner.Keeping.{Going}
use Rattle.serve_spans.proofs.Going.{going_dismissed}
use Rattle.serve_spans.proofs.Lists.{map_snoc}
use Rattle.serve_many.specs.Answered.{IsAnswered, front_of, sides}
use Rattle.serve_many.proofs.Answering.{answered_grows}
use Rattle.serve_many.proofs.Rounds.{goes_on, goes_met}
use Rattle.serve_many.proofs.Counting.{all_front, all_last}
use Rattle.serve_many.proofs.crew.dismiss.Goals as goal

pub dismiss_one-requires : goal.dismiss_one-requires
dismiss_one-requires g c = record {
  of = (
    c.loop-hired-2.invariant.of,
    all_last (λ h. IsOf g.V.Versions.meaning c.args.api.now h.running.handle.promise.job.value.pass) c.pop.new.self.items c.in-Some.hired
        (subst (All (λ h. IsOf g.V.Versions.meaning c.args.api.now h.running.handle.promise.job.value.pass)) c.in-Some.ensures.items c.loop-hired-2.invariant.crew),
  );
}

pub loop-hired-2-preserved : goal.loop-hired-2-preserved
loop-hired-2-preserved g c = record {
  of = c.dismiss_one.ensures.of;
  crew = all_front (λ h. IsOf g.V.Versions.meaning c.args.api.now h.running.handle.promise.job.value.pass) c.pop.new.self.items (c.in-Some.hired ∷ [])
      (subst (All (λ h. IsOf g.V.Versions.meaning c.args.api.now h.running.handle.promise.job.value.pass)) c.in-Some.ensures.items c.loop-hired-2.invariant.crew);
  goes = goes_on c.args.pass.now.view c.loop-hired-2.pass.view c.dismiss_one.new.pass.view c.loop-hired-2.invariant.goes (goes_met c.loop-hired-2.pass.view c.dismiss_one.ensures.joined.0.view c.dismiss_one.new.pass.view c.dismiss_one.ensures.joined.2);
  going = λ told n asked idle v0 h0 g0 jobs count handed given start.
      let f = front_of g.V.Versions.meaning c.args.api.now.base told in
      let j = c.dismiss_one.ensures.joined in
      let crew : List (View (CoreBase g.row.V.Denot)) = map (λ h. h.running.handle.promise.job.value.pass.view) c.pop.new.self.items in
      let p = c.in-Some.hired.running.handle.promise.job.value.pass.view in
      let v = c.loop-hired-2.pass.view in
      let parts : map (λ h. h.running.handle.promise.job.value.pass.view) c.loop-hired-2.crew.items ≡ crew ++ p ∷ [] =
      ap (λ xs. map (λ h. h.running.handle.promise.job.value.pass.view) xs) c.in-Some.ensures.items ∙ map_snoc (λ h. h.running.handle.promise.job.value.pass.view) c.pop.new.self.items c.in-Some.hired in
      let now : Going (IsAnswered g.V.Tool.Tool.faults (sides g.A.In.Source.left g.A.In.Source.most g.A.Out.Sink.written g.A.Out.Sink.flushed) f) n asked idle v0 h0 g0 (crew ++ p ∷ []) jobs v count handed given =
      subst (λ (vs : List (View (CoreBase g.row.V.Denot))). Going (IsAnswered g.V.Tool.Tool.faults (sides g.A.In.Source.left g.A.In.Source.most g.A.Out.Sink.written g.A.Out.Sink.flushed) f) n asked idle v0 h0 g0 vs jobs v count handed given) parts (c.loop-hired-2.invariant.going told n asked idle v0 h0 g0 jobs count handed given start) in
      going_dismissed (IsAnswered g.V.Tool.Tool.faults (sides g.A.In.Source.left g.A.In.Source.most g.A.Out.Sink.written g.A.Out.Sink.flushed) f) (answered_grows g.V.Tool.Tool.faults (sides g.A.In.Source.left g.A.In.Source.most g.A.Out.Sink.written g.A.Out.Sink.flushed) f) n asked idle v0 h0 g0 crew jobs p v j.0.view c.dismiss_one.new.pass.view count handed given now j.1 j.2;
}

pub returns-clause-going : goal.returns-clause-going
returns-clause-going g c told n asked idle v0 h0 g0 jobs count handed given start =
    let f = front_of g.V.Versions.meaning c.args.api.now.base told in
    let now = c.loop-hired-2.invariant.going told n asked idle v0 h0 g0 jobs count handed given start in
    let none : c.loop-hired-2.crew.items ≡ [] = search rules in
    subst (λ (vs : List (View (CoreBase g.row.V.Denot))). Going (IsAnswered g.V.Tool.Tool.faults (sides g.A.In.Source.left g.A.In.Source.most g.A.Out.Sink.written g.A.Out.Sink.flushed) f) n asked idle v0 h0 g0 vs jobs c.loop-hired-2.pass.view count handed given) (ap (λ xs. map (λ h. h.running.handle.promise.job.value.pass.view) xs) none) now
