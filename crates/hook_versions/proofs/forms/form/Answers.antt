use Rattle.std.proofs.Common.{◌≡◌, ◌∙◌, ◌≤◌, IsTrue, Some, sym, subst}
use Rattle.std.specs.Prelude.{◌≢◌}
use Rattle.kj_value.specs.Json.{depth}
use Rattle.kube_meta.specs.Document.{document}
use Rattle.kube_meta.specs.View.{ObjectView, object_of}
use Rattle.api_calls.specs.declared.versions.TheConstants.{OBJECT_LEVELS}
use Rattle.crd_laws.specs.Hook.{version_text, IsForm}
use Rattle.crd_laws.specs.Turning.{Becomes, OfTurns}
use Rattle.hook_versions.specs.Facts.{hooked}
use Rattle.hook_versions.specs.inner.Steps.{Turns}
use Rattle.hook_versions.proofs.Forming.{itself, form_of}
use Rattle.hook_versions.proofs.Objects.{whole_standing}
use Rattle.hook_versions.proofs.Results.{one_ok, both_ok}
use Rattle.hook_versions.proofs.Standing.{taken_standing}
use Rattle.hook_versions.proofs.Turned.{becomes_itself, becomes_turned}
use Rattle.hook_versions.proofs.forms.form.Goals as goal

pub returns-then-v-hub-clause-form : goal.returns-then-v-hub-clause-form
returns-then-v-hub-clause-form g c =
    let k = hooked c.args.set.now g.C.Converter.HONEST g.C.Converter.turned in
    let h = object_of c.args.hub.now in
    subst (λ (x : ObjectView). IsForm k c.args.v h x) (sym c.in_ok-copy_object.ensures) (itself k c.args.v h (whole_standing k h c.requires.whole) (c.if-v-hub.true ∙ c.hub.ensures.value))

pub returns-then-v-hub-clause-becomes : goal.returns-then-v-hub-clause-becomes
returns-then-v-hub-clause-becomes g c =
    becomes_itself c.args.set.now (g.C.Converter.turns c.args.tool.now) c.args.set.now.hub (object_of c.args.hub.now) (object_of c.in_ok-copy_object.field-0) c.args.v
    (sym (c.if-v-hub.true ∙ c.hub.ensures.value)) c.in_ok-copy_object.ensures

pub returns-then-v-hub-clause-levels : goal.returns-then-v-hub-clause-levels
returns-then-v-hub-clause-levels g c =
    let k = hooked c.args.set.now g.C.Converter.HONEST g.C.Converter.turned in
    subst (λ (x : ObjectView). depth (document x) ≤ OBJECT_LEVELS) (sym c.in_ok-copy_object.ensures) (whole_standing k (object_of c.args.hub.now) c.requires.whole).sent.levels

pub turned_or_fault-requires-clause-sent : goal.turned_or_fault-requires-clause-sent
turned_or_fault-requires-clause-sent g c =
    let k = hooked c.args.set.now g.C.Converter.HONEST g.C.Converter.turned in
    (whole_standing k (object_of c.args.hub.now) c.requires.whole).sent

pub returns : goal.returns
returns g c =
    let k = hooked c.args.set.now g.C.Converter.HONEST g.C.Converter.turned in
    let d = c.args.set.now in
    let h = object_of c.args.hub.now in
    let before = g.C.Converter.turns c.args.tool.now in
    let now = g.C.Converter.turns c.turned_or_fault.new.tool in
    let standing = whole_standing k h c.requires.whole in
    let spoke : c.args.v ≢ d.hub = λ same. c.if-v-hub.false (same ∙ sym c.hub.ensures.value) in record {
      form = both_ok (λ y. Turns d before now h c.args.v (object_of y)) (λ y. k.turned h (version_text d c.args.v) ≡ Some (object_of y)) (λ y. IsForm k c.args.v h (object_of y)) c.turned_or_fault.result
          (λ y t e. form_of k c.args.v h (object_of y) t.answer standing spoke t.taken e) c.turned_or_fault.ensures.turns c.turned_or_fault.ensures.turned;
      becomes = one_ok (λ y. Turns d before now h c.args.v (object_of y)) (λ y. OfTurns before now (λ ts. Becomes d ts d.hub h c.args.v (object_of y))) c.turned_or_fault.result
          (λ y t. becomes_turned d before now h c.args.v d.hub (object_of y) (λ same. spoke (sym same)) t) c.turned_or_fault.ensures.turns;
      blames = c.turned_or_fault.ensures.blames;
      levels = one_ok (λ y. Turns d before now h c.args.v (object_of y)) (λ y. depth (document (object_of y)) ≤ OBJECT_LEVELS) c.turned_or_fault.result
          (λ y t. (taken_standing d d.hub c.args.v h (object_of y) t.answer standing t.taken).sent.levels) c.turned_or_fault.ensures.turns;
      tool = c.turned_or_fault.ensures.tool;
      rises = c.turned_or_fault.ensures.rises;
    }
