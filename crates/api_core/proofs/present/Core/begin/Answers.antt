use Rattle.std.proofs.Common.{◌∙◌, sym, refl}
use Rattle.std.specs.Arc.{arc_value}
use Rattle.api_core.proofs.SettingTurns.{shown}
use Rattle.api_core.proofs.WorkTurns.{begin-claimed, begin-finished, begin-idle}
use Rattle.api_core.proofs.present.Core.begin.Goals as goal

pub returns-then-claim-clause-turn : goal.returns-then-claim-clause-turn
returns-then-claim-clause-turn g c =
    let x = shown (arc_value c.self.inside.versions) c.self.inside.limits c.self.inside.boot c.self.inside.flags c.self.inside.stored c.self.inside.revision c.self.inside.store c.self.inside.migrations in
    begin-claimed g.V.Versions.meaning c.args.self.now x c.claim.new.self c.claim.new.w.claim c.finished.ensures c.self.view_is
    (record { was = sym c.if-claim.true ∙ c.claim.ensures.was; plan = c.claim.ensures.plan; worker = c.claim.ensures.worker })

pub returns-then-mark-clause-turn : goal.returns-then-mark-clause-turn
returns-then-mark-clause-turn g c =
    let x = shown (arc_value c.self.inside.versions) c.self.inside.limits c.self.inside.boot c.self.inside.flags c.self.inside.stored c.self.inside.revision c.self.inside.store c.self.inside.migrations in
    begin-finished g.V.Versions.meaning c.args.self.now x c.claim.new.self c.mark.new.self c.claim.new.w.claim c.finished.ensures c.self.view_is
    (record { was = sym c.if-claim.false ∙ c.claim.ensures.was; plan = c.claim.ensures.plan; worker = c.claim.ensures.worker })
    (sym c.if-mark.true ∙ c.mark.ensures.was) c.mark.ensures.plan

pub returns-clause-turn : goal.returns-clause-turn
returns-clause-turn g c =
    let x = shown (arc_value c.self.inside.versions) c.self.inside.limits c.self.inside.boot c.self.inside.flags c.self.inside.stored c.self.inside.revision c.self.inside.store c.self.inside.migrations in
    begin-idle g.V.Versions.meaning c.args.self.now x c.claim.new.self c.mark.new.self c.claim.new.w.claim c.self.view_is
    (record { was = sym c.if-claim.false ∙ c.claim.ensures.was; plan = c.claim.ensures.plan; worker = c.claim.ensures.worker })
    (sym c.if-mark.false ∙ c.mark.ensures.was) c.mark.ensures.plan

pub returns-then-claim-clause-revision : goal.returns-then-claim-clause-revision
returns-then-claim-clause-revision g c = rw (← c.self.view_is) refl

pub returns-then-claim-clause-base : goal.returns-then-claim-clause-base
returns-then-claim-clause-base g c = rw (← c.self.view_is) (record { versions = refl; limits = refl; boot = refl })

pub returns-then-mark-clause-base : goal.returns-then-mark-clause-base
returns-then-mark-clause-base g c = rw (← c.self.view_is) (record { versions = refl; limits = refl; boot = refl })

pub returns-clause-revision : goal.returns-clause-revision
returns-clause-revision g c = rw (← c.self.view_is) refl

pub returns-clause-base : goal.returns-clause-base
returns-clause-base g c = rw (← c.self.view_is) (record { versions = refl; limits = refl; boot = refl })
