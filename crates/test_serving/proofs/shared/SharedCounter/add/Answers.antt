use Rattle.std.proofs.Common.{ℕ, ◌≡◌, List, ap, sym, ◌∙◌, subst}
use Rattle.api_calls.specs.Item.{Logged}
use Rattle.turn_cell.specs.declared.view.View.{View}
use Rattle.turn_cell.specs.laws.Laws.{turn_ends, stands_now}
use Rattle.test_serving.specs.Counts.{IsLegal, IsReply, Counts, entered_by}
use Rattle.test_serving.proofs.shared.SharedCounter.add.Goals as goal

pub returns-clause-answer : goal.returns-clause-answer
returns-clause-answer g c limit is =
    let t = c.take-cell.ensures.taken in
    let v = c.args.pass.now.turn.seat.me.0 in
    let w = c.take-cell.new.pass.seat.me.0 in
    let u = c.enter.new.pass.seat.me.0 in
    let z = c.give.new.pass.seat.me.0 in
    let r = c.add-end.result in
    let same : c.take-cell.result.counter.limit ≡ limit = cc (is, t.2) in
    let d = c.add-end.ensures.decides w.seen t.1 in
    let now = stands_now (Counts c.add-end.new.self) w u (entered_by r c.args.x) d.0 c.enter.ensures.entered in
    let legal : IsLegal limit z.seen =
    subst (λ (k : ℕ × List Logged). IsLegal k.0 k.1) (λ i. ((c.add-end.ensures.limit ∙ same) i, sym (ap (λ (q : View ℕ). q.seen) c.give.ensures.given) i)) now.2 in (
      w.seen,
      turn_ends v w t.0 t.4 (entered_by r c.args.x) u z c.enter.ensures.entered c.give.ensures.given,
      legal,
      subst (λ (l : ℕ). IsReply l w.seen c.args.x r) same d.1,
    )
