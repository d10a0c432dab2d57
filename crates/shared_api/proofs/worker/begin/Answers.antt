use Rattle.api_calls.specs.Item.{items}
use Rattle.api_core.specs.Ends.{turn_end}
use Rattle.shared_api.proofs.Working.{begins, few-claims, few-revision, first-stands}
use Rattle.shared_api.proofs.worker.begin.Goals as goal

pub migration_turn-end-requires-clause-few : goal.migration_turn-end-requires-clause-few
migration_turn-end-requires-clause-few g c =
    rw c.deref_mut.ensures.value (let t = c.take-cell.ensures.taken in
    few-revision g.V.Versions.meaning c.take-cell.result.core.value c.take-cell.new.pass.seat.me.0.seen t.1 t.3)

pub migration_turn-end-requires-clause-claims : goal.migration_turn-end-requires-clause-claims
migration_turn-end-requires-clause-claims g c =
    rw c.deref_mut.ensures.value (let t = c.take-cell.ensures.taken in
    few-claims g.V.Versions.meaning c.take-cell.result.core.value c.take-cell.new.pass.seat.me.0.seen t.1 t.3)

pub finish-requires-clause-stands : goal.finish-requires-clause-stands
finish-requires-clause-stands g c =
    let t = c.take-cell.ensures.taken in
    let log = items c.take-cell.new.pass.seat.me.0.seen in
    first-stands g.V.Versions.meaning c.take-cell.result.core.value c.migration_turn-end.new.self log c.args.w.now.claim c.migration_turn-end.new.w.claim (turn_end c.migration_turn-end.result)
    c.enters-entered.result (rw c.deref_mut.ensures.value at c.migration_turn-end.ensures.base) ((rw c.deref_mut.ensures.value at c.migration_turn-end.ensures.turn) log t.1.0) c.enters-entered.ensures

pub returns-clause-begins : goal.returns-clause-begins
returns-clause-begins g c b is =
    let t = c.take-cell.ensures.taken in
    begins g.V.Versions.meaning c.take-cell.result.core.value c.migration_turn-end.new.self b c.args.pass.now.seat.me.0 c.take-cell.new.pass.seat.me.0 c.finish.new.pass.seat.me.0
    c.args.w.now.claim c.migration_turn-end.new.w.claim c.told-begun.result (turn_end c.migration_turn-end.result) c.enters-entered.result
    t.2 is t.0 t.4 t.1 t.3 (rw c.deref_mut.ensures.value at c.migration_turn-end.ensures.base) ((rw c.deref_mut.ensures.value at c.migration_turn-end.ensures.turn) (items c.take-cell.new.pass.seat.me.0.seen) t.1.0) c.enters-entered.ensures
    (rw c.deref.ensures at c.told-begun.ensures) c.finish.ensures.closes c.finish.ensures.legal
