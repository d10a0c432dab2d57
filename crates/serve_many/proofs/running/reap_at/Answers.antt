use Rattle.std.proofs.Common.{rules, ◌≡◌, ◌<◌, ℕ, ◌++◌, ◌∷◌, [], suc, All, List, map, take, drop, length, Option, ap, sym, subst}
use Rattle.shared_api.specs.Passes.{IsOf}
use Rattle.shared_api.specs.declared.cell.CoreBase.{CoreBase}
use Rattle.serve_spans.specs.inner.Keeping.{Going, Job}
use Rattle.serve_spans.proofs.Going.{going_removed}
use Rattle.serve_many.specs.Answered.{IsAnswered, front_of, sides}
use Rattle.serve_many.specs.Jobs.{Serves}
use Rattle.serve_many.proofs.Answering.{answered_grows}
use Rattle.serve_many.proofs.Rounds.{goes_met}
use Rattle.serve_many.proofs.Counting.{all_at, all_removed}
use Rattle.serve_many.proofs.running.reap_at.Goals as goal

pub returns-clause-goes : goal.returns-clause-goes
returns-clause-goes g c = goes_met c.args.pass.now.view c.join_one.ensures.joined.0.view c.join_one.new.pass.view c.join_one.ensures.joined.3

pub returns-clause-links : goal.returns-clause-links
returns-clause-links g c =
    subst (All (λ h. IsOf g.V.Versions.meaning c.args.api.now h.handle.promise.job.value.pass × (g.C.Clock.told h.handle.promise.job.value.clock.now ≡ g.C.Clock.told c.args.clock.now))) (sym c.remove-link.ensures.items)
    (all_removed (λ h. IsOf g.V.Versions.meaning c.args.api.now h.handle.promise.job.value.pass × (g.C.Clock.told h.handle.promise.job.value.clock.now ≡ g.C.Clock.told c.args.clock.now)) c.args.running.now.items c.args.at c.requires.links)

pub returns-clause-going : goal.returns-clause-going
returns-clause-going g c n asked idle v0 h0 g0 crew count handed start =
    let f = front_of g.V.Versions.meaning c.args.api.now.base (g.C.Clock.told c.args.clock.now) in
    let items = c.args.running.now.items in
    let at = c.args.at in
    let j = c.join_one.ensures.joined in
    let u = c.join_one.new.pass.view in
    let p = c.remove-link.result.handle.promise.job.value.pass.view in
    let o = g.A.In.Source.origin c.remove-link.result.handle.promise.job.value.input in
    let given = g.A.Ears.returned c.args.ears.now in
    let later = g.A.Ears.returned c.join_one.new.ears in
    let lt : at < length items = search rules in
    let told : g.C.Clock.told c.remove-link.result.handle.promise.job.value.clock.now ≡ g.C.Clock.told c.args.clock.now =
    (all_at (λ h. IsOf g.V.Versions.meaning c.args.api.now h.handle.promise.job.value.pass × (g.C.Clock.told h.handle.promise.job.value.clock.now ≡ g.C.Clock.told c.args.clock.now)) items at c.remove-link.result c.requires.links lt c.remove-link.ensures.value).1 in
    let next : Going (IsAnswered g.V.Tool.Tool.faults (sides g.A.In.Source.left g.A.In.Source.most g.A.Out.Sink.written g.A.Out.Sink.flushed) f) n asked idle v0 h0 g0 crew (map (λ h. (h.handle.promise.job.value.pass.view, g.A.In.Source.origin h.handle.promise.job.value.input)) (take at items ++ drop (suc at) items)) u count handed later =
    going_removed (IsAnswered g.V.Tool.Tool.faults (sides g.A.In.Source.left g.A.In.Source.most g.A.Out.Sink.written g.A.Out.Sink.flushed) f) (answered_grows g.V.Tool.Tool.faults (sides g.A.In.Source.left g.A.In.Source.most g.A.Out.Sink.written g.A.Out.Sink.flushed) f) n asked idle v0 h0 g0 crew (λ h. (h.handle.promise.job.value.pass.view, g.A.In.Source.origin h.handle.promise.job.value.input)) items at c.remove-link.result c.args.pass.now.view j.0.view u count handed given later j.1
    lt c.remove-link.ensures.value start
    (subst (λ (t : Option (List ℕ)). Serves g.V.Tool.Tool.faults (sides g.A.In.Source.left g.A.In.Source.most g.A.Out.Sink.written g.A.Out.Sink.flushed) g.V.Versions.meaning c.args.api.now.base t p o j.0.view j.1) told j.2) j.3 j.4 in
    subst (λ (js : List (Job (CoreBase g.row.V.Denot))). Going (IsAnswered g.V.Tool.Tool.faults (sides g.A.In.Source.left g.A.In.Source.most g.A.Out.Sink.written g.A.Out.Sink.flushed) f) n asked idle v0 h0 g0 crew js u count handed later)
    (ap (λ xs. map (λ h. (h.handle.promise.job.value.pass.view, g.A.In.Source.origin h.handle.promise.job.value.input)) xs) (sym c.remove-link.ensures.items)) next
