use Rattle.std.proofs.Common.{refl}
use Rattle.std.specs.Arc.{arc_value}
use Rattle.api_core.proofs.SettingTurns.{shown, start-turn_done}
use Rattle.api_core.proofs.present.Core.start_migration.Goals as goal

pub returns-in-Done-clause-turn : goal.returns-in-Done-clause-turn
returns-in-Done-clause-turn g c =
    let x = shown (arc_value c.self.inside.versions) c.self.inside.limits c.self.inside.boot c.self.inside.flags c.self.inside.stored c.self.inside.revision c.self.inside.store c.self.inside.migrations in
    start-turn_done g.V.Versions.meaning c.args.self.now x c.args.name.bytes c.in-Done.target c.start.new.self c.self.view_is c.in-Done.ensures.answer c.in-Done.ensures.plan

pub returns-in-Done-clause-leaves : goal.returns-in-Done-clause-leaves
returns-in-Done-clause-leaves g c = rw (← c.self.view_is) (rw c.in-Done.ensures.plan refl)

pub returns-in-Done-clause-base : goal.returns-in-Done-clause-base
returns-in-Done-clause-base g c = rw (← c.self.view_is) (record { versions = refl; limits = refl; boot = refl })

pub returns-in-AlreadyExists-clause-leaves : goal.returns-in-AlreadyExists-clause-leaves
returns-in-AlreadyExists-clause-leaves g c = rw (← c.self.view_is) (rw c.in-AlreadyExists.ensures.plan refl)

pub returns-in-AlreadyExists-clause-revision : goal.returns-in-AlreadyExists-clause-revision
returns-in-AlreadyExists-clause-revision g c = rw (← c.self.view_is) refl

pub returns-in-AlreadyExists-clause-base : goal.returns-in-AlreadyExists-clause-base
returns-in-AlreadyExists-clause-base g c = rw (← c.self.view_is) (record { versions = refl; limits = refl; boot = refl })

pub returns-in-Running-clause-leaves : goal.returns-in-Running-clause-leaves
returns-in-Running-clause-leaves g c = rw (← c.self.view_is) (rw c.in-Running.ensures.plan refl)

pub returns-in-Running-clause-revision : goal.returns-in-Running-clause-revision
returns-in-Running-clause-revision g c = rw (← c.self.view_is) refl

pub returns-in-Running-clause-base : goal.returns-in-Running-clause-base
returns-in-Running-clause-base g c = rw (← c.self.view_is) (record { versions = refl; limits = refl; boot = refl })

pub returns-in-Full-clause-leaves : goal.returns-in-Full-clause-leaves
returns-in-Full-clause-leaves g c = rw (← c.self.view_is) (rw c.in-Full.ensures.plan refl)

pub returns-in-Full-clause-revision : goal.returns-in-Full-clause-revision
returns-in-Full-clause-revision g c = rw (← c.self.view_is) refl

pub returns-in-Full-clause-base : goal.returns-in-Full-clause-base
returns-in-Full-clause-base g c = rw (← c.self.view_is) (record { versions = refl; limits = refl; boot = refl })
