use Rattle.std.proofs.Common.{◌≡◌, ◌∙◌, sym, rules, length, None}
use Rattle.std.specs.Arc.{arc_value}
use Rattle.api_calls.specs.Settings.{first_unknown}
use Rattle.api_calls.specs.State.{has}
use Rattle.api_calls.specs.Versions.{versions_of}
use Rattle.api_core.specs.inner.TrimLaws.{unkept}
use Rattle.api_core.proofs.SettingTurns.{shown, trim-kept, trim-turn_held, trim-turn_same, trim-turn_done}
use Rattle.api_core.proofs.present.Core.trim.Goals as goal

pub returns-in-Some-held-clause-turn : goal.returns-in-Some-held-clause-turn
returns-in-Some-held-clause-turn g c =
    let x = shown (arc_value c.self.inside.versions) c.self.inside.limits c.self.inside.boot c.self.inside.flags c.self.inside.stored c.self.inside.revision c.self.inside.store c.self.inside.migrations in
    let none : None ≡ first_unknown (versions_of c.self.inside.stored) (versions_of c.args.keep.now) = search rules in
    let us : c.versions-3.result.now ≡ unkept (versions_of c.args.keep.now) (versions_of c.self.inside.stored) = search rules in
    trim-turn_held g.V.Versions.meaning c.args.self.now x (versions_of c.args.keep.now) c.versions-3.result.now c.in-Some-held.v c.in-Some-held.key c.self.view_is none us c.in-Some-held.ensures

pub returns-then-unkept-eq0-clause-turn : goal.returns-then-unkept-eq0-clause-turn
returns-then-unkept-eq0-clause-turn g c =
    let x = shown (arc_value c.self.inside.versions) c.self.inside.limits c.self.inside.boot c.self.inside.flags c.self.inside.stored c.self.inside.revision c.self.inside.store c.self.inside.migrations in
    let none : None ≡ first_unknown (versions_of c.self.inside.stored) (versions_of c.args.keep.now) = search rules in
    let us : c.versions-3.result.now ≡ unkept (versions_of c.args.keep.now) (versions_of c.self.inside.stored) = search rules in
    let count : c.unkept_of-unkept.result.len ≡ length (unkept (versions_of c.args.keep.now) (versions_of c.self.inside.stored)) = search rules in
    trim-turn_same g.V.Versions.meaning c.args.self.now x (versions_of c.args.keep.now) c.versions-3.result.now c.unkept_of-unkept.result.len c.self.view_is none us
    (sym c.in_default-held.is ∙ c.held.ensures) count c.if-unkept-eq0.true

pub invariant_of-self : goal.invariant_of-self
invariant_of-self g c =
    trim-kept _ _ _ _ c.self.inside.stored _ (has (versions_of c.args.keep.now)) c.self.invariant (search rules) c.kept_of-self-inside.ensures.len

pub returns-clause-turn : goal.returns-clause-turn
returns-clause-turn g c =
    let x = shown (arc_value c.self.inside.versions) c.self.inside.limits c.self.inside.boot c.self.inside.flags c.self.inside.stored c.self.inside.revision c.self.inside.store c.self.inside.migrations in
    let none : None ≡ first_unknown (versions_of c.self.inside.stored) (versions_of c.args.keep.now) = search rules in
    let us : c.versions-3.result.now ≡ unkept (versions_of c.args.keep.now) (versions_of c.self.inside.stored) = search rules in
    let count : c.unkept_of-unkept.result.len ≡ length (unkept (versions_of c.args.keep.now) (versions_of c.self.inside.stored)) = search rules in
    trim-turn_done g.V.Versions.meaning c.args.self.now x (versions_of c.args.keep.now) c.versions-3.result.now _ c.unkept_of-unkept.result.len c.sound.ensures c.self.view_is none us
    (sym c.in_default-held.is ∙ c.held.ensures) count c.if-unkept-eq0.false (search rules)
