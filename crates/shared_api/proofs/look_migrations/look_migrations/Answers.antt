use Rattle.shared_api.proofs.MigrationLooks.{looks_migrations}
use Rattle.shared_api.proofs.look_migrations.look_migrations.Goals as goal

pub returns-clause-looks : goal.returns-clause-looks
returns-clause-looks g c b is =
    let t = c.take-cell.ensures.taken in
    let core = c.take-cell.result.core.value in
    looks_migrations g.V.Versions.meaning core b c.args.pass.now.seat.me.0 c.take-cell.new.pass.seat.me.0 c.give.new.pass.seat.me.0 c.migrations-migrations.result
    t.2 is t.0 t.4 t.1 t.3 c.give.ensures.given (rw c.deref.ensures at c.migrations-migrations.ensures) (g.met.V.Versions.opens core.versions)
