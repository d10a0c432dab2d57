use Rattle.shared_api.proofs.Turns.{looks}
use Rattle.shared_api.proofs.look.look.Goals as goal

pub returns-clause-looks : goal.returns-clause-looks
returns-clause-looks g c b is =
    let t = c.take-cell.ensures.taken in
    let core = c.take-cell.result.core.value in
    looks g.V.Versions.meaning core b c.args.pass.now.seat.me.0 c.take-cell.new.pass.seat.me.0 c.give.new.pass.seat.me.0 c.args.key.now c.peek-peeked.result
    t.2 is t.0 t.4 t.1 t.3 c.give.ensures.given (rw c.deref.ensures at c.peek-peeked.ensures.are_flags) (rw c.deref.ensures at c.peek-peeked.ensures.sees)
