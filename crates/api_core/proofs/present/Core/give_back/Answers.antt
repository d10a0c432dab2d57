use Rattle.std.specs.Arc.{arc_value}
use Rattle.api_core.proofs.SettingTurns.{shown}
use Rattle.api_core.proofs.WorkTurns.{give_back-turn}
use Rattle.api_core.proofs.present.Core.give_back.Goals as goal

pub returns-clause-turn : goal.returns-clause-turn
returns-clause-turn g c =
    let x = shown (arc_value c.self.inside.versions) c.self.inside.limits c.self.inside.boot c.self.inside.flags c.self.inside.stored c.self.inside.revision c.self.inside.store c.self.inside.migrations in
    give_back-turn g.V.Versions.meaning c.args.self.now x c.args.w.now.claim c.give_back.result c.give_back.new.self c.self.view_is c.give_back.ensures.was c.give_back.ensures.plan
