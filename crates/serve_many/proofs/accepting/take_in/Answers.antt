use Rattle.std.proofs.Common.{rules, ◌≡◌, ◌++◌, ◌∷◌, [], ◌+◌, All, List, map, refl, ap, sym, ◌∙◌, subst, arith}
use Rattle.shared_api.specs.Passes.{IsOf}
use Rattle.shared_api.specs.declared.cell.CoreBase.{CoreBase}
use Rattle.turn_cell.specs.declared.view.View.{View}
use Rattle.serve_spans.specs.inner.Keeping.{Going, Job}
use Rattle.serve_spans.proofs.Going.{going_begun, going_last, going_here}
use Rattle.serve_spans.proofs.Lists.{map_snoc}
use Rattle.serve_many.specs.Answered.{IsAnswered, front_of, sides}
use Rattle.serve_many.proofs.Answering.{answered_grows}
use Rattle.serve_many.proofs.Rounds.{goes_on, goes_same, goes_halved, goes_met, goes_served}
use Rattle.serve_many.proofs.Counting.{all_snoc, at_none}
use Rattle.serve_many.proofs.accepting.take_in.Goals as goal

pub returns-then-len-ge-MOST_RUNNING-clause-going : goal.returns-then-len-ge-MOST_RUNNING-clause-going
returns-then-len-ge-MOST_RUNNING-clause-going g c n asked idle v0 h0 g0 crew count handed later out start =
    let f = front_of g.V.Versions.meaning c.args.api.now.base (g.C.Clock.told c.args.clock.now) in
    let j : List (Job (CoreBase g.row.V.Denot)) = map (λ h. (h.handle.promise.job.value.pass.view, g.A.In.Source.origin h.handle.promise.job.value.input)) c.args.running.now.items in
    let s = c.serve_here.ensures.served in
    going_here (IsAnswered g.V.Tool.Tool.faults (sides g.A.In.Source.left g.A.In.Source.most g.A.Out.Sink.written g.A.Out.Sink.flushed) f) (answered_grows g.V.Tool.Tool.faults (sides g.A.In.Source.left g.A.In.Source.most g.A.Out.Sink.written g.A.Out.Sink.flushed) f) n asked idle v0 h0 g0 crew j (g.A.In.Source.origin c.args.input) c.args.pass.now.view c.serve_here.new.pass.view count handed later
    (g.A.Ears.returned c.args.ears.now) (g.A.Ears.returned c.serve_here.new.ears) s.0 start s.1 out s.2

pub returns-in_default-clause-going : goal.returns-in_default-clause-going
returns-in_default-clause-going g c n asked idle v0 h0 g0 crew count handed later out start =
    let f = front_of g.V.Versions.meaning c.args.api.now.base (g.C.Clock.told c.args.clock.now) in
    let j : List (Job (CoreBase g.row.V.Denot)) = map (λ h. (h.handle.promise.job.value.pass.view, g.A.In.Source.origin h.handle.promise.job.value.input)) c.args.running.now.items in
    let s = c.serve_here-in_default.ensures.served in
    let same : c.make_pass.new.pass ≡ c.args.pass.now = at_none c.make_pass.result _ _ c.in_default.is c.make_pass.ensures.made in
    let still : c.make_pass.new.pass.view ≡ c.args.pass.now.view = ap (λ q. q.view) same in
    going_here (IsAnswered g.V.Tool.Tool.faults (sides g.A.In.Source.left g.A.In.Source.most g.A.Out.Sink.written g.A.Out.Sink.flushed) f) (answered_grows g.V.Tool.Tool.faults (sides g.A.In.Source.left g.A.In.Source.most g.A.Out.Sink.written g.A.Out.Sink.flushed) f) n asked idle v0 h0 g0 crew j (g.A.In.Source.origin c.args.input) c.make_pass.new.pass.view c.serve_here-in_default.new.pass.view count handed later
    (g.A.Ears.returned c.args.ears.now) (g.A.Ears.returned c.serve_here-in_default.new.ears) s.0
    (subst (λ (v : View (CoreBase g.row.V.Denot)). Going (IsAnswered g.V.Tool.Tool.faults (sides g.A.In.Source.left g.A.In.Source.most g.A.Out.Sink.written g.A.Out.Sink.flushed) f) n asked idle v0 h0 g0 crew j v count handed (g.A.Ears.returned c.args.ears.now)) (sym still) start) s.1 out s.2

pub returns-in-Ok-clause-links : goal.returns-in-Ok-clause-links
returns-in-Ok-clause-links g c =
    subst (All (λ h. IsOf g.V.Versions.meaning c.args.api.now h.handle.promise.job.value.pass × (g.C.Clock.told h.handle.promise.job.value.clock.now ≡ g.C.Clock.told c.args.clock.now))) (sym c.push_reserved.ensures.items)
    (all_snoc (λ h. IsOf g.V.Versions.meaning c.args.api.now h.handle.promise.job.value.pass × (g.C.Clock.told h.handle.promise.job.value.clock.now ≡ g.C.Clock.told c.args.clock.now)) c.args.running.now.items c.in-Ok.link c.requires.links
    (subst (λ q. IsOf g.V.Versions.meaning c.args.api.now q.pass × (g.C.Clock.told q.clock.now ≡ g.C.Clock.told c.args.clock.now)) (sym c.in-Ok.ensures.begun) (c.in-Some.ensures.made.0, refl)))

pub returns-in-Ok-clause-going : goal.returns-in-Ok-clause-going
returns-in-Ok-clause-going g c n asked idle v0 h0 g0 crew count handed later out start =
    let f = front_of g.V.Versions.meaning c.args.api.now.base (g.C.Clock.told c.args.clock.now) in
    let j : List (Job (CoreBase g.row.V.Denot)) = map (λ h. (h.handle.promise.job.value.pass.view, g.A.In.Source.origin h.handle.promise.job.value.input)) c.args.running.now.items in
    let p = c.in-Some.own.view in
    let o = g.A.In.Source.origin c.args.input in
    let u = c.make_pass.new.pass.view in
    let given = g.A.Ears.returned c.args.ears.now in
    let made = c.in-Some.ensures.made in
    let next : Going (IsAnswered g.V.Tool.Tool.faults (sides g.A.In.Source.left g.A.In.Source.most g.A.Out.Sink.written g.A.Out.Sink.flushed) f) n asked idle v0 h0 g0 crew (j ++ (p, o) ∷ []) u (count + 1) later given =
    going_begun (IsAnswered g.V.Tool.Tool.faults (sides g.A.In.Source.left g.A.In.Source.most g.A.Out.Sink.written g.A.Out.Sink.flushed) f) (answered_grows g.V.Tool.Tool.faults (sides g.A.In.Source.left g.A.In.Source.most g.A.Out.Sink.written g.A.Out.Sink.flushed) f) n asked idle v0 h0 g0 crew j p o c.args.pass.now.view u count handed later given start made.1 made.2 out in
    let parts : map (λ h. (h.handle.promise.job.value.pass.view, g.A.In.Source.origin h.handle.promise.job.value.input)) c.push_reserved.new.self.items ≡ j ++ (p, o) ∷ [] =
    ap (λ xs. map (λ h. (h.handle.promise.job.value.pass.view, g.A.In.Source.origin h.handle.promise.job.value.input)) xs) c.push_reserved.ensures.items
    ∙ (map_snoc (λ h. (h.handle.promise.job.value.pass.view, g.A.In.Source.origin h.handle.promise.job.value.input)) c.args.running.now.items c.in-Ok.link
    ∙ ap (λ q. j ++ (q.pass.view, g.A.In.Source.origin q.input) ∷ []) c.in-Ok.ensures.begun) in
    subst (λ (js : List (Job (CoreBase g.row.V.Denot))). Going (IsAnswered g.V.Tool.Tool.faults (sides g.A.In.Source.left g.A.In.Source.most g.A.Out.Sink.written g.A.Out.Sink.flushed) f) n asked idle v0 h0 g0 crew js u (count + 1) later given) (sym parts) next

pub give_back-requires-clause-of : goal.give_back-requires-clause-of
give_back-requires-clause-of g c =
    let own : IsOf g.V.Versions.meaning c.args.api.now c.in-Err.outcome.pass = (c.in-Err.ensures.done c.args.api.now c.in-Some.ensures.made.0).0 in
    let both : IsOf g.V.Versions.meaning c.args.api.now c.make_pass.new.pass × IsOf g.V.Versions.meaning c.args.api.now c.in-Err.outcome.pass = (c.make_pass.ensures.of, own) in
    search rules

pub returns-in-Err-clause-going : goal.returns-in-Err-clause-going
returns-in-Err-clause-going g c n asked idle v0 h0 g0 crew count handed later out start =
    let f = front_of g.V.Versions.meaning c.args.api.now.base (g.C.Clock.told c.args.clock.now) in
    let j : List (Job (CoreBase g.row.V.Denot)) = map (λ h. (h.handle.promise.job.value.pass.view, g.A.In.Source.origin h.handle.promise.job.value.input)) c.args.running.now.items in
    let p = c.in-Some.own.view in
    let o = g.A.In.Source.origin c.args.input in
    let v = c.make_pass.new.pass.view in
    let u = c.give_back.new.pass.view in
    let given = g.A.Ears.returned c.args.ears.now in
    let made = c.in-Some.ensures.made in
    let next : Going (IsAnswered g.V.Tool.Tool.faults (sides g.A.In.Source.left g.A.In.Source.most g.A.Out.Sink.written g.A.Out.Sink.flushed) f) n asked idle v0 h0 g0 crew (j ++ (p, o) ∷ []) v (count + 1) later given =
    going_begun (IsAnswered g.V.Tool.Tool.faults (sides g.A.In.Source.left g.A.In.Source.most g.A.Out.Sink.written g.A.Out.Sink.flushed) f) (answered_grows g.V.Tool.Tool.faults (sides g.A.In.Source.left g.A.In.Source.most g.A.Out.Sink.written g.A.Out.Sink.flushed) f) n asked idle v0 h0 g0 crew j p o c.args.pass.now.view v count handed later given start made.1 made.2 out in
    going_last (IsAnswered g.V.Tool.Tool.faults (sides g.A.In.Source.left g.A.In.Source.most g.A.Out.Sink.written g.A.Out.Sink.flushed) f) (answered_grows g.V.Tool.Tool.faults (sides g.A.In.Source.left g.A.In.Source.most g.A.Out.Sink.written g.A.Out.Sink.flushed) f) n asked idle v0 h0 g0 crew j p o v c.in-Err.outcome.pass.view u (count + 1) later given (g.A.Ears.returned c.give_back.new.ears) (g.A.Ears.ending c.in-Err.outcome.ended)
    next (c.in-Err.ensures.done c.args.api.now made.0).1 c.give_back.ensures.met c.give_back.ensures.returned

pub returns-then-len-ge-MOST_RUNNING-clause-of : goal.returns-then-len-ge-MOST_RUNNING-clause-of
returns-then-len-ge-MOST_RUNNING-clause-of g c = c.serve_here.ensures.of

pub returns-then-len-ge-MOST_RUNNING-clause-links : goal.returns-then-len-ge-MOST_RUNNING-clause-links
returns-then-len-ge-MOST_RUNNING-clause-links g c = c.requires.links

pub returns-then-len-ge-MOST_RUNNING-clause-room : goal.returns-then-len-ge-MOST_RUNNING-clause-room
returns-then-len-ge-MOST_RUNNING-clause-room g c = (c.requires.room.0, refl)

pub returns-then-len-ge-MOST_RUNNING-clause-goes : goal.returns-then-len-ge-MOST_RUNNING-clause-goes
returns-then-len-ge-MOST_RUNNING-clause-goes g c = goes_served g.V.Tool.Tool.faults (sides g.A.In.Source.left g.A.In.Source.most g.A.Out.Sink.written g.A.Out.Sink.flushed) g.V.Versions.meaning c.args.api.now.base (g.C.Clock.told c.args.clock.now) c.args.pass.now.view (g.A.In.Source.origin c.args.input) c.serve_here.new.pass.view c.serve_here.ensures.served.0 c.serve_here.ensures.served.1

pub returns-then-len-ge-MOST_RUNNING-clause-hears : goal.returns-then-len-ge-MOST_RUNNING-clause-hears
returns-then-len-ge-MOST_RUNNING-clause-hears g c = c.serve_here.ensures.hears

pub returns-then-len-ge-MOST_RUNNING-clause-faults : goal.returns-then-len-ge-MOST_RUNNING-clause-faults
returns-then-len-ge-MOST_RUNNING-clause-faults g c = c.serve_here.ensures.faults

pub returns-then-len-ge-MOST_RUNNING-clause-origins : goal.returns-then-len-ge-MOST_RUNNING-clause-origins
returns-then-len-ge-MOST_RUNNING-clause-origins g c = c.serve_here.ensures.origins

pub returns-in_default-clause-of : goal.returns-in_default-clause-of
returns-in_default-clause-of g c = c.serve_here-in_default.ensures.of

pub returns-in_default-clause-links : goal.returns-in_default-clause-links
returns-in_default-clause-links g c = c.requires.links

pub returns-in_default-clause-room : goal.returns-in_default-clause-room
returns-in_default-clause-room g c = (c.requires.room.0, refl)

pub returns-in_default-clause-goes : goal.returns-in_default-clause-goes
returns-in_default-clause-goes g c =
    let same : c.make_pass.new.pass ≡ c.args.pass.now = at_none c.make_pass.result _ _ c.in_default.is c.make_pass.ensures.made in
    goes_on c.args.pass.now.view c.make_pass.new.pass.view c.serve_here-in_default.new.pass.view (goes_same c.args.pass.now.view c.make_pass.new.pass.view (ap (λ q. q.view) same))
    (goes_served g.V.Tool.Tool.faults (sides g.A.In.Source.left g.A.In.Source.most g.A.Out.Sink.written g.A.Out.Sink.flushed) g.V.Versions.meaning c.args.api.now.base (g.C.Clock.told c.args.clock.now) c.make_pass.new.pass.view (g.A.In.Source.origin c.args.input) c.serve_here-in_default.new.pass.view c.serve_here-in_default.ensures.served.0 c.serve_here-in_default.ensures.served.1)

pub returns-in_default-clause-hears : goal.returns-in_default-clause-hears
returns-in_default-clause-hears g c = c.serve_here-in_default.ensures.hears

pub returns-in_default-clause-faults : goal.returns-in_default-clause-faults
returns-in_default-clause-faults g c = c.serve_here-in_default.ensures.faults

pub returns-in_default-clause-origins : goal.returns-in_default-clause-origins
returns-in_default-clause-origins g c = c.serve_here-in_default.ensures.origins

pub returns-in-Err-clause-of : goal.returns-in-Err-clause-of
returns-in-Err-clause-of g c = c.give_back.ensures.of

pub returns-in-Err-clause-links : goal.returns-in-Err-clause-links
returns-in-Err-clause-links g c = c.requires.links

pub returns-in-Err-clause-room : goal.returns-in-Err-clause-room
returns-in-Err-clause-room g c = (c.requires.room.0, refl)

pub returns-in-Err-clause-goes : goal.returns-in-Err-clause-goes
returns-in-Err-clause-goes g c = goes_on c.args.pass.now.view c.make_pass.new.pass.view c.give_back.new.pass.view (goes_halved c.args.pass.now.view c.make_pass.new.pass.view c.in-Some.ensures.made.1)
    (goes_met c.make_pass.new.pass.view c.in-Err.outcome.pass.view c.give_back.new.pass.view c.give_back.ensures.met)

pub returns-in-Err-clause-hears : goal.returns-in-Err-clause-hears
returns-in-Err-clause-hears g c = c.give_back.ensures.hears

pub returns-in-Err-clause-faults : goal.returns-in-Err-clause-faults
returns-in-Err-clause-faults g c = c.give_back.ensures.faults

pub returns-in-Err-clause-origins : goal.returns-in-Err-clause-origins
returns-in-Err-clause-origins g c = c.give_back.ensures.origins

pub returns-in-Ok-clause-of : goal.returns-in-Ok-clause-of
returns-in-Ok-clause-of g c = c.make_pass.ensures.of

pub returns-in-Ok-clause-room : goal.returns-in-Ok-clause-room
returns-in-Ok-clause-room g c = (omega (arith, c.push_reserved.ensures.len, c.if-len-ge-MOST_RUNNING.false, c.len.ensures), c.push_reserved.ensures.capacity)

pub returns-in-Ok-clause-goes : goal.returns-in-Ok-clause-goes
returns-in-Ok-clause-goes g c = goes_halved c.args.pass.now.view c.make_pass.new.pass.view c.in-Some.ensures.made.1

pub returns-in-Ok-clause-hears : goal.returns-in-Ok-clause-hears
returns-in-Ok-clause-hears g c = λ place h. h

pub returns-in-Ok-clause-faults : goal.returns-in-Ok-clause-faults
returns-in-Ok-clause-faults g c = refl

pub returns-in-Ok-clause-origins : goal.returns-in-Ok-clause-origins
returns-in-Ok-clause-origins g c = refl
