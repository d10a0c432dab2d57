use Rattle.std.proofs.Common.{ℕ, ◌≡◌, ◌+◌, arith, ◌++◌, ◌∷◌, [], All, List, map, ap, sym, ◌∙◌, subst}
use Rattle.shared_api.specs.Passes.{IsOf}
use Rattle.shared_api.specs.declared.cell.CoreBase.{CoreBase}
use Rattle.turn_cell.specs.declared.view.View.{View}
use Rattle.serve_spans.specs.inner.Keeping.{Going}
use Rattle.serve_spans.proofs.Going.{going_hired, going_spared, going_idle}
use Rattle.serve_spans.proofs.Lists.{map_snoc}
use Rattle.serve_many.specs.Answered.{IsAnswered, front_of, sides}
use Rattle.serve_many.proofs.Answering.{answered_grows}
use Rattle.serve_many.proofs.Rounds.{goes_on, goes_same, goes_halved, goes_met}
use Rattle.serve_many.proofs.Counting.{all_snoc, at_none}
use Rattle.serve_many.proofs.crew.hire_one.Goals as goal

pub returns-in-Ok-start_work-clause-goes : goal.returns-in-Ok-start_work-clause-goes
returns-in-Ok-start_work-clause-goes g c = goes_halved c.args.pass.now.view c.make_pass.new.pass.view c.in-Some.ensures.made.1

pub returns-in_default-make_pass-clause-goes : goal.returns-in_default-make_pass-clause-goes
returns-in_default-make_pass-clause-goes g c =
    let same : c.make_pass.new.pass ≡ c.args.pass.now = at_none c.make_pass.result _ _ c.in_default-make_pass.is c.make_pass.ensures.made in
    goes_same c.args.pass.now.view c.make_pass.new.pass.view (ap (λ q. q.view) same)

pub returns-in-Err-clause-goes : goal.returns-in-Err-clause-goes
returns-in-Err-clause-goes g c = goes_on c.args.pass.now.view c.make_pass.new.pass.view c.meet.new.into.view (goes_halved c.args.pass.now.view c.make_pass.new.pass.view c.in-Some.ensures.made.1) (goes_met c.make_pass.new.pass.view c.in-Err.back.view c.meet.new.into.view c.meet.ensures.met)

pub returns-in-Ok-start_work-clause-crew : goal.returns-in-Ok-start_work-clause-crew
returns-in-Ok-start_work-clause-crew g c =
    subst (All (λ h. IsOf g.V.Versions.meaning c.args.api.now h.running.handle.promise.job.value.pass)) (sym c.push_reserved.ensures.items)
    (all_snoc (λ h. IsOf g.V.Versions.meaning c.args.api.now h.running.handle.promise.job.value.pass) c.args.crew.now.items c.in-Ok-start_work.hired c.requires.crew
    (subst (λ q. IsOf g.V.Versions.meaning c.args.api.now q.pass) (sym c.in-Ok-start_work.ensures.begun) c.in-Some.ensures.made.0))

pub returns-in-Ok-start_work-clause-going : goal.returns-in-Ok-start_work-clause-going
returns-in-Ok-start_work-clause-going g c told n asked idle v0 h0 g0 jobs count handed given start =
    let f = front_of g.V.Versions.meaning c.args.api.now.base told in
    let crew : List (View (CoreBase g.row.V.Denot)) = map (λ h. h.running.handle.promise.job.value.pass.view) c.args.crew.now.items in
    let p = c.in-Some.own.view in
    let u = c.make_pass.new.pass.view in
    let made = c.in-Some.ensures.made in
    let next : Going (IsAnswered g.V.Tool.Tool.faults (sides g.A.In.Source.left g.A.In.Source.most g.A.Out.Sink.written g.A.Out.Sink.flushed) f) n (asked + 1) idle v0 h0 g0 (crew ++ p ∷ []) jobs u count handed given =
    going_hired (IsAnswered g.V.Tool.Tool.faults (sides g.A.In.Source.left g.A.In.Source.most g.A.Out.Sink.written g.A.Out.Sink.flushed) f) (answered_grows g.V.Tool.Tool.faults (sides g.A.In.Source.left g.A.In.Source.most g.A.Out.Sink.written g.A.Out.Sink.flushed) f) n asked idle v0 h0 g0 crew jobs p c.args.pass.now.view u count handed given start made.1 made.2 in
    let parts : map (λ h. h.running.handle.promise.job.value.pass.view) c.push_reserved.new.self.items ≡ crew ++ p ∷ [] =
    ap (λ xs. map (λ h. h.running.handle.promise.job.value.pass.view) xs) c.push_reserved.ensures.items
    ∙ (map_snoc (λ h. h.running.handle.promise.job.value.pass.view) c.args.crew.now.items c.in-Ok-start_work.hired
    ∙ ap (λ q. crew ++ q.pass.view ∷ []) c.in-Ok-start_work.ensures.begun) in
    let none : idle ≡ idle + 0 = omega arith in
    subst (λ (k : ℕ). Going (IsAnswered g.V.Tool.Tool.faults (sides g.A.In.Source.left g.A.In.Source.most g.A.Out.Sink.written g.A.Out.Sink.flushed) f) n (asked + 1) k v0 h0 g0 (map (λ h. h.running.handle.promise.job.value.pass.view) c.push_reserved.new.self.items) jobs u count handed given) none
    (subst (λ (vs : List (View (CoreBase g.row.V.Denot))). Going (IsAnswered g.V.Tool.Tool.faults (sides g.A.In.Source.left g.A.In.Source.most g.A.Out.Sink.written g.A.Out.Sink.flushed) f) n (asked + 1) idle v0 h0 g0 vs jobs u count handed given) (sym parts) next)

pub returns-in_default-make_pass-clause-going : goal.returns-in_default-make_pass-clause-going
returns-in_default-make_pass-clause-going g c told n asked idle v0 h0 g0 jobs count handed given start =
    let f = front_of g.V.Versions.meaning c.args.api.now.base told in
    let crew : List (View (CoreBase g.row.V.Denot)) = map (λ h. h.running.handle.promise.job.value.pass.view) c.args.crew.now.items in
    let same : c.make_pass.new.pass ≡ c.args.pass.now = at_none c.make_pass.result _ _ c.in_default-make_pass.is c.make_pass.ensures.made in
    subst (λ (v : View (CoreBase g.row.V.Denot)). Going (IsAnswered g.V.Tool.Tool.faults (sides g.A.In.Source.left g.A.In.Source.most g.A.Out.Sink.written g.A.Out.Sink.flushed) f) n (asked + 1) (idle + 1) v0 h0 g0 crew jobs v count handed given) (sym (ap (λ q. q.view) same))
    (going_idle (IsAnswered g.V.Tool.Tool.faults (sides g.A.In.Source.left g.A.In.Source.most g.A.Out.Sink.written g.A.Out.Sink.flushed) f) (answered_grows g.V.Tool.Tool.faults (sides g.A.In.Source.left g.A.In.Source.most g.A.Out.Sink.written g.A.Out.Sink.flushed) f) n asked idle v0 h0 g0 crew jobs c.args.pass.now.view count handed given start)

pub returns-in-Err-clause-going : goal.returns-in-Err-clause-going
returns-in-Err-clause-going g c told n asked idle v0 h0 g0 jobs count handed given start =
    let f = front_of g.V.Versions.meaning c.args.api.now.base told in
    let crew : List (View (CoreBase g.row.V.Denot)) = map (λ h. h.running.handle.promise.job.value.pass.view) c.args.crew.now.items in
    let p = c.in-Some.own.view in
    let v = c.make_pass.new.pass.view in
    let made = c.in-Some.ensures.made in
    let next : Going (IsAnswered g.V.Tool.Tool.faults (sides g.A.In.Source.left g.A.In.Source.most g.A.Out.Sink.written g.A.Out.Sink.flushed) f) n (asked + 1) idle v0 h0 g0 (crew ++ p ∷ []) jobs v count handed given =
    going_hired (IsAnswered g.V.Tool.Tool.faults (sides g.A.In.Source.left g.A.In.Source.most g.A.Out.Sink.written g.A.Out.Sink.flushed) f) (answered_grows g.V.Tool.Tool.faults (sides g.A.In.Source.left g.A.In.Source.most g.A.Out.Sink.written g.A.Out.Sink.flushed) f) n asked idle v0 h0 g0 crew jobs p c.args.pass.now.view v count handed given start made.1 made.2 in
    going_spared (IsAnswered g.V.Tool.Tool.faults (sides g.A.In.Source.left g.A.In.Source.most g.A.Out.Sink.written g.A.Out.Sink.flushed) f) (answered_grows g.V.Tool.Tool.faults (sides g.A.In.Source.left g.A.In.Source.most g.A.Out.Sink.written g.A.Out.Sink.flushed) f) n (asked + 1) idle v0 h0 g0 crew jobs p v c.in-Err.back.view c.meet.new.into.view count handed given next
    (c.in-Err.ensures.done c.args.api.now made.0).1 c.meet.ensures.met
