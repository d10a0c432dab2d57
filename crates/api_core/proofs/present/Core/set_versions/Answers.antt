use Rattle.std.proofs.Common.{◌∙◌}
use Rattle.std.specs.Arc.{arc_value}
use Rattle.api_core.proofs.SettingTurns.{shown, set-room, set-kept, set-flags, set-other, set-turn_done}
use Rattle.api_core.proofs.present.Core.set_versions.Goals as goal

pub joined_list-self-inside-requires-clause-room : goal.joined_list-self-inside-requires-clause-room
joined_list-self-inside-requires-clause-room g c =
    let x = shown (arc_value c.self-2.inside.versions) c.self-2.inside.limits c.self-2.inside.boot c.self-2.inside.flags c.self-2.inside.stored c.self-2.inside.revision c.self-2.inside.store c.self-2.inside.migrations in
    let small = (g.met.V.Versions.few (arc_value c.self-2.inside.versions)).1 in
    let flags = set-flags g.V.Versions.meaning c.args.self.now x c.args.flags (c.self-2.view_is ∙ c.leave_storage.ensures) c.requires.flags in
    set-room _ _ _ _ c.args.flags c.self-2.inside.stored small c.self-2.invariant flags

pub invariant_of-self : goal.invariant_of-self
invariant_of-self g c =
    let x = shown (arc_value c.self-2.inside.versions) c.self-2.inside.limits c.self-2.inside.boot c.self-2.inside.flags c.self-2.inside.stored c.self-2.inside.revision c.self-2.inside.store c.self-2.inside.migrations in
    let small = (g.met.V.Versions.few (arc_value c.self-2.inside.versions)).1 in
    let flags = set-flags g.V.Versions.meaning c.args.self.now x c.args.flags (c.self-2.view_is ∙ c.leave_storage.ensures) c.requires.flags in
    set-kept _ _ _ _ c.args.flags c.self-2.inside.stored _ small c.self-2.invariant flags c.joined_list-self-inside.ensures.versions c.joined_list-self-inside.ensures.len

pub returns-clause-turn : goal.returns-clause-turn
returns-clause-turn g c =
    let x = shown (arc_value c.self.inside.versions) c.self.inside.limits c.self.inside.boot c.self.inside.flags c.self.inside.stored c.self.inside.revision c.self.inside.store c.self.inside.migrations in
    let y = shown (arc_value c.self-2.inside.versions) c.self-2.inside.limits c.self-2.inside.boot c.self-2.inside.flags c.self-2.inside.stored c.self-2.inside.revision c.self-2.inside.store c.self-2.inside.migrations in
    let other = set-other g.V.Versions.meaning c.args.self.now x c.args.flags c.same.result c.self.view_is c.same.ensures c.if-same.false in
    set-turn_done g.V.Versions.meaning c.args.self.now y c.args.flags _ c.sound.ensures c.requires.flags other (c.self-2.view_is ∙ c.leave_storage.ensures) c.joined_list-self-inside.ensures.versions
