use Rattle.std.proofs.Common.{◌≡◌, ◌∷◌, List, ap, arith, length, subst, sym}
use Rattle.std.specs.Vec.Iter.{into_iter_items}
use Rattle.api_core.specs.CoreOf.{StandsFor}
use Rattle.core_laws.specs.declared.calls.Answer.{Answer}
use Rattle.core_laws.specs.declared.calls.Call.{Call}
use Rattle.core_laws.proofs.Reaching.{GoesOn, Reached, goes-on-more, known-now, same-base}
use Rattle.core_laws.proofs.running.run.Goals as goal

pub make-requires : goal.make-requires
make-requires g c =
    let left = into_iter_items c.next.new.self in
    let step : into_iter_items c.loop-call.call-iterator ≡ c.in-Some.call ∷ left = c.in-Some.ensures.steps.0 in
    let so_far = c.loop-call.invariant in
    known-now g.V.Versions.meaning c.args.core.now c.loop-call.core c.requires.0 c.requires.1 c.loop-call.answers.items c.in-Some.call left so_far.base c.requires.5
    (subst
    (λ (ks : List Call). Reached (g.V.Versions.meaning c.args.core.now.versions) c.args.core.now.view.limits (StandsFor g.V.Versions.meaning c.loop-call.core) c.requires.0 c.requires.1 c.loop-call.answers.items ks)
    step (so_far.goes_on c.requires.0 c.requires.1 c.requires.2 c.requires.3 c.requires.4))

pub loop-call-preserved : goal.loop-call-preserved
loop-call-preserved g c =
    let left = into_iter_items c.next.new.self in
    let step : into_iter_items c.loop-call.call-iterator ≡ c.in-Some.call ∷ left = c.in-Some.ensures.steps.0 in
    let so_far = c.loop-call.invariant in
    let more = goes-on-more g.V.Versions.meaning c.args.core.now c.loop-call.core c.make.new.core c.args.calls.items c.loop-call.answers.items c.in-Some.call left c.make.result so_far.base c.make.ensures.turn
    (subst (λ (ks : List Call). GoesOn g.V.Versions.meaning c.args.core.now c.loop-call.core c.args.calls.items c.loop-call.answers.items ks) step so_far.goes_on) in
    record {
      base = same-base g.V.Versions.meaning c.args.core.now c.loop-call.core c.make.new.core so_far.base c.make.ensures.base;
      goes_on = subst (λ (xs : List Answer). GoesOn g.V.Versions.meaning c.args.core.now c.make.new.core c.args.calls.items xs left) (sym {A = List Answer} c.push_reserved.ensures.items) more;
      room =
          let room = so_far.room in
          let longer = ap length step in
          let pushed = c.push_reserved.ensures.len in
          let kept = c.push_reserved.ensures.capacity in
          omega (arith, room, longer, pushed, kept);
    }
