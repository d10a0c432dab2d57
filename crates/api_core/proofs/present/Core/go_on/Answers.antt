use Rattle.std.proofs.Common.{refl}
use Rattle.std.specs.Arc.{arc_value}
use Rattle.api_core.proofs.SettingTurns.{shown}
use Rattle.api_core.specs.Ends.{turn_end}
use Rattle.api_core.specs.CoreOf.{StandsFor}
use Rattle.api_core.proofs.Leaving.{began}
use Rattle.api_core.proofs.WorkTurns.{go-prepare, go-done, go-lost, go-next}
use Rattle.api_core.proofs.present.Core.go_on.Goals as goal

pub returns-in-Prepare-clause-turn : goal.returns-in-Prepare-clause-turn
returns-in-Prepare-clause-turn g c =
    let x = shown (arc_value c.self.inside.versions) c.self.inside.limits c.self.inside.boot c.self.inside.flags c.self.inside.stored c.self.inside.revision c.self.inside.store c.self.inside.migrations in
    go-prepare g.V.Versions.meaning c.args.self.now x c.args.w.now.claim c.in-Prepare.key c.in-Prepare.rv c.advance.new.self c.self.view_is
    (record { answer = c.in-Prepare.ensures.answer; plan = c.in-Prepare.ensures.plan })

pub returns-in-Done-clause-turn : goal.returns-in-Done-clause-turn
returns-in-Done-clause-turn g c =
    let x = shown (arc_value c.self.inside.versions) c.self.inside.limits c.self.inside.boot c.self.inside.flags c.self.inside.stored c.self.inside.revision c.self.inside.store c.self.inside.migrations in
    go-done g.V.Versions.meaning c.args.self.now x c.args.w.now.claim c.advance.new.self c.finished.ensures c.self.view_is
    (record { answer = c.in-Done.ensures.answer; plan = c.in-Done.ensures.plan })

pub returns-in-Prepare-clause-prepared : goal.returns-in-Prepare-clause-prepared
returns-in-Prepare-clause-prepared g c =
    let x = shown (arc_value c.self.inside.versions) c.self.inside.limits c.self.inside.boot c.self.inside.flags c.self.inside.stored c.self.inside.revision c.self.inside.store c.self.inside.migrations in
    go-next g.V.Versions.meaning x c.args.w.now.claim c.in-Prepare.key c.in-Prepare.rv c.advance.new.self
    (record { answer = c.in-Prepare.ensures.answer; plan = c.in-Prepare.ensures.plan })

pub returns-in-Lost-clause-turn : goal.returns-in-Lost-clause-turn
returns-in-Lost-clause-turn g c =
    let x = shown (arc_value c.self.inside.versions) c.self.inside.limits c.self.inside.boot c.self.inside.flags c.self.inside.stored c.self.inside.revision c.self.inside.store c.self.inside.migrations in
    go-lost g.V.Versions.meaning c.args.self.now x c.args.w.now.claim c.advance.new.self (StandsFor g.V.Versions.meaning c.begin.new.self) (turn_end c.begin.result) c.begin.new.w.claim
    c.self.view_is (record { answer = c.in-Lost.ensures.answer; plan = c.in-Lost.ensures.plan }) c.begin.ensures.turn

pub returns-in-Lost-clause-leaves : goal.returns-in-Lost-clause-leaves
returns-in-Lost-clause-leaves g c =
    let x = shown (arc_value c.self.inside.versions) c.self.inside.limits c.self.inside.boot c.self.inside.flags c.self.inside.stored c.self.inside.revision c.self.inside.store c.self.inside.migrations in
    began c.args.self.now x c.args.w.now.claim c.begin.result c.advance.new.self c.begin.new.self c.self.view_is c.in-Lost.ensures.answer c.in-Lost.ensures.plan c.begin.ensures.leaves

pub returns-in-Prepare-clause-revision : goal.returns-in-Prepare-clause-revision
returns-in-Prepare-clause-revision g c = rw (← c.self.view_is) refl

pub returns-in-Prepare-clause-base : goal.returns-in-Prepare-clause-base
returns-in-Prepare-clause-base g c = rw (← c.self.view_is) (record { versions = refl; limits = refl; boot = refl })

pub returns-in-Done-clause-revision : goal.returns-in-Done-clause-revision
returns-in-Done-clause-revision g c = rw (← c.self.view_is) refl

pub returns-in-Done-clause-base : goal.returns-in-Done-clause-base
returns-in-Done-clause-base g c = rw (← c.self.view_is) (record { versions = refl; limits = refl; boot = refl })
