use Rattle.std.proofs.Common.{refl}
use Rattle.std.specs.Arc.{arc_value}
use Rattle.api_core.proofs.SettingTurns.{shown}
use Rattle.api_core.proofs.WorkTurns.{touch-missed_turn, touch-in_work, touch-done_turn}
use Rattle.api_core.proofs.present.Core.touch.Goals as goal

pub returns-then-not-is_ready-clause-turn : goal.returns-then-not-is_ready-clause-turn
returns-then-not-is_ready-clause-turn g c =
    let x = shown (arc_value c.self.inside.versions) c.self.inside.limits c.self.inside.boot c.self.inside.flags c.self.inside.stored c.self.inside.revision c.self.inside.store c.self.inside.migrations in
    λ log h st prepares known.
    touch-missed_turn g.V.Versions.meaning c.args.self.now x c.args.w.now.claim c.in-Some.target c.args.new.key c.args.rv c.args.new.at c.is_ready.result c.self.view_is
    c.in-Some.ensures c.is_ready.ensures c.if-not-is_ready.true log st

pub pass_key-requires : goal.pass_key-requires
pass_key-requires g c =
    let x = shown (arc_value c.self.inside.versions) c.self.inside.limits c.self.inside.boot c.self.inside.flags c.self.inside.stored c.self.inside.revision c.self.inside.store c.self.inside.migrations in
    rw c.spot-spot.ensures (touch-in_work g.V.Versions.meaning c.args.self.now x c.args.w.now.claim c.in-Some.target c.args.new.key c.args.rv c.args.new.at c.is_ready.result c.self.view_is
    c.in-Some.ensures c.is_ready.ensures c.if-not-is_ready.false c.requires.next)

pub returns-clause-turn : goal.returns-clause-turn
returns-clause-turn g c =
    let x = shown (arc_value c.self.inside.versions) c.self.inside.limits c.self.inside.boot c.self.inside.flags c.self.inside.stored c.self.inside.revision c.self.inside.store c.self.inside.migrations in
    touch-done_turn g.V.Versions.meaning c.args.self.now x c.args.w.now.claim c.in-Some.target c.args.new c.args.rv c.is_ready.result c.touch_if-done.result c.touch_if-done.new.self c.pass_key.new.self
    c.self.view_is c.in-Some.ensures c.is_ready.ensures c.if-not-is_ready.false c.requires.fits c.requires.next (rw c.into_record.ensures at c.touch_if-done.ensures.end) (rw c.into_record.ensures at c.touch_if-done.ensures.store)
    (rw (← c.spot-spot.ensures) c.pass_key.ensures)

pub returns-clause-base : goal.returns-clause-base
returns-clause-base g c = rw (← c.self.view_is) (record { versions = refl; limits = refl; boot = refl })
