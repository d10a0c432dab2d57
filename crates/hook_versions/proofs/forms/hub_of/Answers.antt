use Rattle.std.proofs.Common.{◌≡◌, ◌∙◌, ℕ, ◌≤◌, Some, refl, sym, subst}
use Rattle.std.specs.Prelude.{◌≢◌, IfOk}
use Rattle.kj_value.specs.Json.{depth}
use Rattle.kube_meta.specs.Document.{document}
use Rattle.kube_meta.specs.View.{ObjectView, object_of}
use Rattle.api_calls.specs.Spelled.{IsTextOf}
use Rattle.api_calls.specs.Versions.{IsStored}
use Rattle.api_calls.specs.declared.versions.TheConstants.{OBJECT_LEVELS}
use Rattle.crd_settings.specs.SettledLaws.{settings_of}
use Rattle.crd_laws.specs.Hook.{version_text, hook_meaning}
use Rattle.crd_laws.specs.Turning.{Becomes, OfTurns}
use Rattle.hook_versions.specs.Facts.{hooked}
use Rattle.hook_versions.specs.inner.Steps.{Turns}
use Rattle.hook_versions.proofs.Forming.{form_text, read_standing, read_text, stored_itself, stored_back}
use Rattle.hook_versions.proofs.Known.{is_hooked}
use Rattle.hook_versions.proofs.Results.{one_ok, both_ok}
use Rattle.hook_versions.proofs.Standing.{taken_standing}
use Rattle.hook_versions.proofs.Turned.{becomes_itself, becomes_turned}
use Rattle.hook_versions.proofs.forms.hub_of.Goals as goal

pub read_form-requires : goal.read_form-requires
read_form-requires g c =
    let k = hooked c.args.set.now g.C.Converter.HONEST g.C.Converter.turned in
    let o = settings_of c.args.set.now.view in
    let is = is_hooked c.args.set.now g.C.Converter.HONEST g.C.Converter.turned c.versions.ensures.whole c.hub-hub.ensures.known g.met.C.Converter.stays g.met.C.Converter.unstamped in
    (c.requires.1.form, form_text k o is c.args.v c.requires.0 c.args.stored.now c.requires.1)

pub returns-then-v-hub-clause-hub : goal.returns-then-v-hub-clause-hub
returns-then-v-hub-clause-hub g c =
    let k = hooked c.args.set.now g.C.Converter.HONEST g.C.Converter.turned in
    let o = settings_of c.args.set.now.view in
    let is = is_hooked c.args.set.now g.C.Converter.HONEST g.C.Converter.turned c.versions.ensures.whole c.hub-hub.ensures.known g.met.C.Converter.stays g.met.C.Converter.unstamped in
    let s = c.requires.1 in
    let same = c.in_ok-x.ensures s.form (form_text k o is c.args.v c.requires.0 c.args.stored.now s) in
    stored_itself k o is c.args.v c.requires.0 c.args.stored.now s (object_of c.in_ok-x.x) (c.if-v-hub.true ∙ c.hub-hub.ensures.value) same

pub returns-then-v-hub-clause-becomes : goal.returns-then-v-hub-clause-becomes
returns-then-v-hub-clause-becomes g c =
    let k = hooked c.args.set.now g.C.Converter.HONEST g.C.Converter.turned in
    let o = settings_of c.args.set.now.view in
    let is = is_hooked c.args.set.now g.C.Converter.HONEST g.C.Converter.turned c.versions.ensures.whole c.hub-hub.ensures.known g.met.C.Converter.stays g.met.C.Converter.unstamped in
    let s = c.requires.1 in
    let same = c.in_ok-x.ensures s.form (form_text k o is c.args.v c.requires.0 c.args.stored.now s) in
    let x = object_of c.in_ok-x.x in
    (x, read_text k o is c.args.v c.requires.0 c.args.stored.now s x same, becomes_itself c.args.set.now (g.C.Converter.turns c.args.tool.now) c.args.v x x c.args.set.now.hub (c.if-v-hub.true ∙ c.hub-hub.ensures.value) refl)

pub returns-then-v-hub-clause-levels : goal.returns-then-v-hub-clause-levels
returns-then-v-hub-clause-levels g c =
    let k = hooked c.args.set.now g.C.Converter.HONEST g.C.Converter.turned in
    let o = settings_of c.args.set.now.view in
    let is = is_hooked c.args.set.now g.C.Converter.HONEST g.C.Converter.turned c.versions.ensures.whole c.hub-hub.ensures.known g.met.C.Converter.stays g.met.C.Converter.unstamped in
    let s = c.requires.1 in
    let same = c.in_ok-x.ensures s.form (form_text k o is c.args.v c.requires.0 c.args.stored.now s) in
    (read_standing k o is c.args.v c.requires.0 c.args.stored.now s (object_of c.in_ok-x.x) same).sent.levels

pub turned_or_fault-value-requires-clause-sent : goal.turned_or_fault-value-requires-clause-sent
turned_or_fault-value-requires-clause-sent g c =
    let k = hooked c.args.set.now g.C.Converter.HONEST g.C.Converter.turned in
    let o = settings_of c.args.set.now.view in
    let is = is_hooked c.args.set.now g.C.Converter.HONEST g.C.Converter.turned c.versions.ensures.whole c.hub-hub.ensures.known g.met.C.Converter.stays g.met.C.Converter.unstamped in
    let s = c.requires.1 in
    let same = c.in_ok-x.ensures s.form (form_text k o is c.args.v c.requires.0 c.args.stored.now s) in
    (read_standing k o is c.args.v c.requires.0 c.args.stored.now s (object_of c.in_ok-x.x) same).sent

pub returns : goal.returns
returns g c =
    let k = hooked c.args.set.now g.C.Converter.HONEST g.C.Converter.turned in
    let o = settings_of c.args.set.now.view in
    let is = is_hooked c.args.set.now g.C.Converter.HONEST g.C.Converter.turned c.versions.ensures.whole c.hub-hub.ensures.known g.met.C.Converter.stays g.met.C.Converter.unstamped in
    let s = c.requires.1 in
    let same = c.in_ok-x.ensures s.form (form_text k o is c.args.v c.requires.0 c.args.stored.now s) in
    let d = c.args.set.now in
    let x = object_of c.in_ok-x.x in
    let before = g.C.Converter.turns c.args.tool.now in
    let now = g.C.Converter.turns c.turned_or_fault-value.new.tool in
    let value = c.turned_or_fault-value.result in
    let spoke : c.args.v ≢ d.hub = λ here. c.if-v-hub.false (here ∙ sym c.hub-hub.ensures.value) in
    let turns = subst (λ (u : ℕ). IfOk value (λ y. Turns d before now x u (object_of y))) c.hub-hub.ensures.value c.turned_or_fault-value.ensures.turns in record {
      hub = both_ok (λ y. Turns d before now x d.hub (object_of y)) (λ y. k.turned x (version_text d d.hub) ≡ Some (object_of y)) (λ y. IsStored (hook_meaning k o) c.args.v (object_of y) c.args.stored.now) value
          (λ y t e. stored_back k o is c.args.v c.requires.0 c.args.stored.now s x (object_of y) t.answer spoke same t.taken e) turns
          (λ honest. subst (λ (u : ℕ). IfOk value (λ y. k.turned x (version_text d u) ≡ Some (object_of y))) c.hub-hub.ensures.value (c.turned_or_fault-value.ensures.turned honest));
      becomes = one_ok (λ y. Turns d before now x d.hub (object_of y)) (λ y. (z : ObjectView) × IsTextOf z c.args.stored.now × OfTurns before now (λ ts. Becomes d ts c.args.v z d.hub (object_of y))) value
          (λ y t. (x, read_text k o is c.args.v c.requires.0 c.args.stored.now s x same, becomes_turned d before now x d.hub c.args.v (object_of y) spoke t)) turns;
      blames = c.turned_or_fault-value.ensures.blames;
      levels = one_ok (λ y. Turns d before now x d.hub (object_of y)) (λ y. depth (document (object_of y)) ≤ OBJECT_LEVELS) value
          (λ y t. (taken_standing d c.args.v d.hub x (object_of y) t.answer (read_standing k o is c.args.v c.requires.0 c.args.stored.now s x same) t.taken).sent.levels) turns;
      tool = c.turned_or_fault-value.ensures.tool;
      rises = c.turned_or_fault-value.ensures.rises;
    }
