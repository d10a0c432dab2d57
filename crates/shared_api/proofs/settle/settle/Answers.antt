use Rattle.shared_api.proofs.Turns.{settles}
use Rattle.shared_api.proofs.settle.settle.Goals as goal

pub returns-clause-settles : goal.returns-clause-settles
returns-clause-settles g c b is =
    let t = c.take-cell.ensures.taken in
    settles g.V.Versions.meaning c.take-cell.result.core.value b c.args.pass.now.seat.me.0 c.take-cell.new.pass.seat.me.0 c.give.new.pass.seat.me.0
    c.settings-revision.result.0 c.settings-revision.result.1 t.2 is t.0 t.4 t.1 t.3 c.give.ensures.given
    (rw c.deref.ensures at c.settings-revision.ensures.flags) (rw c.deref.ensures at c.settings-revision.ensures.stored) (rw c.deref.ensures at c.settings-revision.ensures.are_flags) (rw c.deref.ensures at c.settings-revision.ensures.is_list)
