use Rattle.std.proofs.lemmas.Result.{err_from_is_err_and}
use Rattle.std.proofs.Common.{rules, ◌≡◌, ◌+◌, List, Option, map, refl, sym, ◌∙◌, subst}
use Rattle.edge_io.specs.Connections.{Origin, Ending, HandsOut}
use Rattle.shared_api.specs.declared.cell.CoreBase.{CoreBase}
use Rattle.serve_spans.specs.inner.Keeping.{Going, Job}
use Rattle.serve_many.specs.Answered.{IsAnswered, front_of, sides}
use Rattle.serve_many.specs.Jobs.{IsUntouched}
use Rattle.serve_many.proofs.Rounds.{goes_on, goes_self}
use Rattle.serve_many.proofs.Counting.{at_err}
use Rattle.serve_many.proofs.accepting.accept_one.Goals as goal

pub take_in-requires-clause-untouched : goal.take_in-requires-clause-untouched
take_in-requires-clause-untouched g c =
    let i = c.in_ok-input.input in
    let o = c.in_ok-input.output in
    let untouched : IsUntouched (g.A.In.Source.origin i) (g.A.In.Source.left i) (g.A.In.Source.faults i) (g.A.Out.Sink.number o) (g.A.Out.Sink.written o) (g.A.Out.Sink.flushed o) (g.A.Out.Sink.faults o) = record {
      whole = c.in_ok-input.ensures.whole;
      of = c.in_ok-input.ensures.number;
      empty = c.in_ok-input.ensures.empty;
      handed_on = c.in_ok-input.ensures.flushed;
      unread = c.in_ok-input.ensures.unread;
      unwritten = c.in_ok-input.ensures.unwritten;
    } in
    search rules

pub returns-clause-going : goal.returns-clause-going
returns-clause-going g c n asked idle v0 h0 g0 crew count start =
    let f = front_of g.V.Versions.meaning c.args.api.now.base (g.C.Clock.told c.args.clock.now) in
    let handed = g.A.Ears.origins c.args.ears.now in
    let later = g.A.Ears.origins c.next.new.self in
    let o = g.A.In.Source.origin c.in_ok-input.input in
    let before : List (Job (CoreBase g.row.V.Denot)) = map (λ h. (h.handle.promise.job.value.pass.view, g.A.In.Source.origin h.handle.promise.job.value.input)) c.args.running.now.items in
    let after : List (Job (CoreBase g.row.V.Denot)) = map (λ h. (h.handle.promise.job.value.pass.view, g.A.In.Source.origin h.handle.promise.job.value.input)) c.take_in.new.running.items in
    let heard : Going (IsAnswered g.V.Tool.Tool.faults (sides g.A.In.Source.left g.A.In.Source.most g.A.Out.Sink.written g.A.Out.Sink.flushed) f) n asked idle v0 h0 g0 crew before c.args.pass.now.view count handed (g.A.Ears.returned c.next.new.self) =
    subst (λ (z : Option (List Ending)). Going (IsAnswered g.V.Tool.Tool.faults (sides g.A.In.Source.left g.A.In.Source.most g.A.Out.Sink.written g.A.Out.Sink.flushed) f) n asked idle v0 h0 g0 crew before c.args.pass.now.view count handed z) (sym c.next.ensures.returned) start in
    let taken = c.take_in.ensures.going n asked idle v0 h0 g0 crew count handed later c.in_ok-input.ensures.origins (c.reap.ensures.going n asked idle v0 h0 g0 crew count handed heard) in
    let now : g.A.Ears.origins c.take_in.new.ears ≡ later = c.take_in.ensures.origins ∙ c.reap.ensures.origins in
    subst (λ (z : Option (List Origin)). Going (IsAnswered g.V.Tool.Tool.faults (sides g.A.In.Source.left g.A.In.Source.most g.A.Out.Sink.written g.A.Out.Sink.flushed) f) n asked idle v0 h0 g0 crew after c.take_in.new.pass.view (count + 1) z (g.A.Ears.returned c.take_in.new.ears)) (sym now) taken

pub returns-in_err-input-clause-going : goal.returns-in_err-input-clause-going
returns-in_err-input-clause-going g c n asked idle v0 h0 g0 crew count start =
    let f = front_of g.V.Versions.meaning c.args.api.now.base (g.C.Clock.told c.args.clock.now) in
    let before : List (Job (CoreBase g.row.V.Denot)) = map (λ h. (h.handle.promise.job.value.pass.view, g.A.In.Source.origin h.handle.promise.job.value.input)) c.args.running.now.items in
    let p = err_from_is_err_and c.from_residual.result c.from_residual.ensures.1 in
    at_err c.from_residual.result _ _ p.0 p.1
    (subst (λ (z : Option (List Origin) × Option (List Ending)). Going (IsAnswered g.V.Tool.Tool.faults (sides g.A.In.Source.left g.A.In.Source.most g.A.Out.Sink.written g.A.Out.Sink.flushed) f) n asked idle v0 h0 g0 crew before c.args.pass.now.view count z.0 z.1)
    (λ i. (sym c.in_err-input.ensures.origins i, sym c.next.ensures.returned i)) start)

pub returns-clause-goes : goal.returns-clause-goes
returns-clause-goes g c = goes_on c.args.pass.now.view c.reap.new.pass.view c.take_in.new.pass.view c.reap.ensures.goes c.take_in.ensures.goes

pub returns-in_err-input-clause-goes : goal.returns-in_err-input-clause-goes
returns-in_err-input-clause-goes g c = goes_self c.args.pass.now.view

pub returns-clause-hears : goal.returns-clause-hears
returns-clause-hears g c = λ place h. c.take_in.ensures.hears place (c.reap.ensures.hears place (c.next.ensures.hears place h))

pub returns-in_err-input-clause-hears : goal.returns-in_err-input-clause-hears
returns-in_err-input-clause-hears g c = c.next.ensures.hears

pub returns-clause-of : goal.returns-clause-of
returns-clause-of g c = c.take_in.ensures.of

pub returns-clause-links : goal.returns-clause-links
returns-clause-links g c = c.take_in.ensures.links

pub returns-clause-room : goal.returns-clause-room
returns-clause-room g c = (c.take_in.ensures.room.0, c.take_in.ensures.room.1 ∙ c.reap.ensures.capacity)

pub returns-in_err-input-clause-of : goal.returns-in_err-input-clause-of
returns-in_err-input-clause-of g c = c.requires.of

pub returns-in_err-input-clause-links : goal.returns-in_err-input-clause-links
returns-in_err-input-clause-links g c = c.requires.links

pub returns-in_err-input-clause-room : goal.returns-in_err-input-clause-room
returns-in_err-input-clause-room g c = (c.requires.room.0, refl)
