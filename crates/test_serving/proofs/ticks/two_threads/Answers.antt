use Rattle.std.proofs.Common.{◌≡◌, ◌∙◌, ap, subst, rules}
use Rattle.turn_cell.specs.Views.{opening_view, halved, newcomer, named}
use Rattle.test_serving.specs.Ticks.{Ticked}
use Rattle.test_serving.proofs.Ticking.{two_total}
use Rattle.test_serving.proofs.ticks.two_threads.Goals as goal

pub returns : goal.returns
returns g c =
    let times = c.args.times in
    let f0 = c.new_pass.new.from.seat.me.0 in
    let s0 = c.in_ok-second.second.seat.me.0 in
    let f = c.join-first.result.0.seat.me.0 in
    let s = c.join-first.result.1.seat.me.0 in
    let u = c.meet.new.into.seat.me.0 in
    let a : Ticked times f0 f = search rules in
    let b : Ticked times s0 s = search rules in
    let o = c.in_ok-turn.ensures in
    let p = c.in_ok-second.ensures in
    let t = c.take-n.ensures.taken in
    let start : f0 ≡ halved (opening_view tt) = p.left ∙ ap halved o.1 in
    t.1 ∙ two_total tt times p.new.0 f s0 s u _ (subst (λ v. Ticked times v f) start a) (p.new.1 ∙ ap (λ v. named p.new.0 (newcomer v)) o.1) b c.meet.ensures.met t.4
