use Rattle.std.proofs.Common.{rules, ◌≡◌, ℕ, All, map, List, ◌∷◌, ◌++◌, [], Option, Some, ap, sym, ◌∙◌, subst}
use Rattle.shared_api.specs.Passes.{IsOf}
use Rattle.shared_api.specs.declared.cell.CoreBase.{CoreBase}
use Rattle.serve_spans.specs.inner.Keeping.{Going, Job}
use Rattle.serve_spans.specs.Spans.{Linked}
use Rattle.serve_spans.proofs.Going.{going_last}
use Rattle.serve_spans.proofs.Lists.{map_snoc}
use Rattle.serve_many.specs.Answered.{IsAnswered, front_of, sides}
use Rattle.serve_many.specs.Jobs.{Serves}
use Rattle.serve_many.proofs.Answering.{answered_grows}
use Rattle.serve_many.proofs.Rounds.{goes_on, goes_met}
use Rattle.serve_many.proofs.Counting.{all_front, all_last}
use Rattle.serve_many.proofs.running.join_all.Goals as goal

pub join_one-requires-clause-of : goal.join_one-requires-clause-of
join_one-requires-clause-of g c =
    let next : IsOf g.V.Versions.meaning c.args.api.now c.in-Some.link.handle.promise.job.value.pass =
    (all_last (λ h. IsOf g.V.Versions.meaning c.args.api.now h.handle.promise.job.value.pass × (g.C.Clock.told h.handle.promise.job.value.clock.now ≡ g.C.Clock.told c.args.clock.now)) c.pop.new.self.items c.in-Some.link
    (subst (All (λ h. IsOf g.V.Versions.meaning c.args.api.now h.handle.promise.job.value.pass × (g.C.Clock.told h.handle.promise.job.value.clock.now ≡ g.C.Clock.told c.args.clock.now))) c.in-Some.ensures.items c.loop-link.invariant.links)).0 in
    let both : IsOf g.V.Versions.meaning c.args.api.now c.loop-link.pass × IsOf g.V.Versions.meaning c.args.api.now c.in-Some.link.handle.promise.job.value.pass = (c.loop-link.invariant.of, next) in
    search rules

pub loop-link-preserved : goal.loop-link-preserved
loop-link-preserved g c = record {
  of = c.join_one.ensures.of;
  links = all_front (λ h. IsOf g.V.Versions.meaning c.args.api.now h.handle.promise.job.value.pass × (g.C.Clock.told h.handle.promise.job.value.clock.now ≡ g.C.Clock.told c.args.clock.now)) c.pop.new.self.items (c.in-Some.link ∷ [])
      (subst (All (λ h. IsOf g.V.Versions.meaning c.args.api.now h.handle.promise.job.value.pass × (g.C.Clock.told h.handle.promise.job.value.clock.now ≡ g.C.Clock.told c.args.clock.now))) c.in-Some.ensures.items c.loop-link.invariant.links);
  goes = goes_on c.args.pass.now.view c.loop-link.pass.view c.join_one.new.pass.view c.loop-link.invariant.goes (goes_met c.loop-link.pass.view c.join_one.ensures.joined.0.view c.join_one.new.pass.view c.join_one.ensures.joined.3);
  hears = λ place h. c.join_one.ensures.hears place (c.loop-link.invariant.hears place h);
  faults = c.join_one.ensures.faults ∙ c.loop-link.invariant.faults;
  origins = c.join_one.ensures.origins ∙ c.loop-link.invariant.origins;
  going = λ n asked idle v0 h0 g0 crew count handed start.
      let f = front_of g.V.Versions.meaning c.args.api.now.base (g.C.Clock.told c.args.clock.now) in
      let now = c.loop-link.invariant.going n asked idle v0 h0 g0 crew count handed start in
      let rest : List (Job (CoreBase g.row.V.Denot)) = map (λ h. (h.handle.promise.job.value.pass.view, g.A.In.Source.origin h.handle.promise.job.value.input)) c.pop.new.self.items in
      let p = c.in-Some.link.handle.promise.job.value.pass.view in
      let o = g.A.In.Source.origin c.in-Some.link.handle.promise.job.value.input in
      let parts : map (λ h. (h.handle.promise.job.value.pass.view, g.A.In.Source.origin h.handle.promise.job.value.input)) c.loop-link.running.items ≡ rest ++ (p, o) ∷ [] =
      ap (λ xs. map (λ h. (h.handle.promise.job.value.pass.view, g.A.In.Source.origin h.handle.promise.job.value.input)) xs) c.in-Some.ensures.items
      ∙ map_snoc (λ h. (h.handle.promise.job.value.pass.view, g.A.In.Source.origin h.handle.promise.job.value.input)) c.pop.new.self.items c.in-Some.link in
      let j = c.join_one.ensures.joined in
      let v = c.loop-link.pass.view in
      let u = c.join_one.new.pass.view in
      let given = g.A.Ears.returned c.loop-link.ears in
      let later = g.A.Ears.returned c.join_one.new.ears in
      let told : g.C.Clock.told c.in-Some.link.handle.promise.job.value.clock.now ≡ g.C.Clock.told c.args.clock.now =
      (all_last (λ h. IsOf g.V.Versions.meaning c.args.api.now h.handle.promise.job.value.pass × (g.C.Clock.told h.handle.promise.job.value.clock.now ≡ g.C.Clock.told c.args.clock.now)) c.pop.new.self.items c.in-Some.link
      (subst (All (λ h. IsOf g.V.Versions.meaning c.args.api.now h.handle.promise.job.value.pass × (g.C.Clock.told h.handle.promise.job.value.clock.now ≡ g.C.Clock.told c.args.clock.now))) c.in-Some.ensures.items c.loop-link.invariant.links)).1 in
      let all : Going (IsAnswered g.V.Tool.Tool.faults (sides g.A.In.Source.left g.A.In.Source.most g.A.Out.Sink.written g.A.Out.Sink.flushed) f) n asked idle v0 h0 g0 crew (rest ++ (p, o) ∷ []) v count handed given = subst (λ (js : List (Job (CoreBase g.row.V.Denot))). Going (IsAnswered g.V.Tool.Tool.faults (sides g.A.In.Source.left g.A.In.Source.most g.A.Out.Sink.written g.A.Out.Sink.flushed) f) n asked idle v0 h0 g0 crew js v count handed given) parts now in
      going_last (IsAnswered g.V.Tool.Tool.faults (sides g.A.In.Source.left g.A.In.Source.most g.A.Out.Sink.written g.A.Out.Sink.flushed) f) (answered_grows g.V.Tool.Tool.faults (sides g.A.In.Source.left g.A.In.Source.most g.A.Out.Sink.written g.A.Out.Sink.flushed) f) n asked idle v0 h0 g0 crew rest p o v j.0.view u count handed given later j.1 all
      (subst (λ (t : Option (List ℕ)). Serves g.V.Tool.Tool.faults (sides g.A.In.Source.left g.A.In.Source.most g.A.Out.Sink.written g.A.Out.Sink.flushed) g.V.Versions.meaning c.args.api.now.base t p o j.0.view j.1) told j.2) j.3 j.4;
}

pub returns-clause-going : goal.returns-clause-going
returns-clause-going g c n asked idle v0 h0 g0 crew count handed start =
    let f = front_of g.V.Versions.meaning c.args.api.now.base (g.C.Clock.told c.args.clock.now) in
    let now = c.loop-link.invariant.going n asked idle v0 h0 g0 crew count handed start in
    let none : c.loop-link.running.items ≡ [] = search rules in
    subst (λ (js : List (Job (CoreBase g.row.V.Denot))). Going (IsAnswered g.V.Tool.Tool.faults (sides g.A.In.Source.left g.A.In.Source.most g.A.Out.Sink.written g.A.Out.Sink.flushed) f) n asked idle v0 h0 g0 crew js c.loop-link.pass.view count handed (g.A.Ears.returned c.loop-link.ears))
    (ap (λ xs. map (λ h. (h.handle.promise.job.value.pass.view, g.A.In.Source.origin h.handle.promise.job.value.input)) xs) none) now
