use Rattle.turn_cell.specs.laws.Laws.{turn_reads}
use Rattle.test_serving.proofs.Adding.{ok_gives}
use Rattle.test_serving.proofs.shared.SharedCounter.numbers.Goals as goal

pub returns-clause-answer : goal.returns-clause-answer
returns-clause-answer g c =
    let t = c.take-cell.ensures.taken in
    let v = c.args.pass.now.turn.seat.me.0 in
    let w = c.take-cell.new.pass.seat.me.0 in
    let z = c.give.new.pass.seat.me.0 in
    (w.seen, turn_reads v w t.0 t.4 z c.give.ensures.given, ok_gives c.numbers-numbers.result _ _ c.numbers-numbers.ensures (λ x h. h w.seen t.1))
