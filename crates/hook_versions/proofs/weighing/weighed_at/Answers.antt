use Rattle.std.proofs.Common.{◌≡◌, ◌∙◌, sym}
use Rattle.std.specs.Prelude.{◌==◌, IsTrue, option_map}
use Rattle.kube_meta.specs.Shapes.{shaped}
use Rattle.kube_meta.specs.View.{object_of}
use Rattle.kube_meta.specs.declared.object.Shape.{Shape}
use Rattle.crd_laws.specs.Hook.{IsForm}
use Rattle.hook_versions.specs.Facts.{hooked}
use Rattle.hook_versions.proofs.Results.{some_more}
use Rattle.hook_versions.proofs.Weights.{then_hub, then_elsewhere, shaped_form, same_number}
use Rattle.hook_versions.proofs.weighing.weighed_at.Goals as goal

pub returns-then-v-hub-clause-next : goal.returns-then-v-hub-clause-next
returns-then-v-hub-clause-next g c =
    then_hub (hooked c.args.set.now g.C.Converter.HONEST g.C.Converter.turned) (object_of c.args.h.now) (option_map object_of c.args.own.now) (g.C.Converter.turns c.args.tool.now) c.args.v c.args.most c.heavier.result c.requires.hub
    (c.if-v-hub.true ∙ c.hub.ensures.value) c.heavier.ensures

pub there_and_back-requires-clause-spoke : goal.there_and_back-requires-clause-spoke
there_and_back-requires-clause-spoke g c = λ same. c.if-v-hub.false (same ∙ sym c.hub.ensures.value)

pub returns-in-Ok-clause-next : goal.returns-in-Ok-clause-next
returns-in-Ok-clause-next g c =
    then_elsewhere (hooked c.args.set.now g.C.Converter.HONEST g.C.Converter.turned) (object_of c.args.h.now) (option_map object_of c.args.own.now) (g.C.Converter.turns c.args.tool.now) (g.C.Converter.turns c.there_and_back.new.tool)
    c.args.v (object_of c.in-Ok.form) c.args.most c.heavier-next.result c.requires.hub (λ same. c.if-v-hub.false (same ∙ sym c.hub.ensures.value)) c.in-Ok.ensures.back c.heavier-next.ensures

pub returns-in-Ok-clause-kept : goal.returns-in-Ok-clause-kept
returns-in-Ok-clause-kept g c =
    let k = hooked c.args.set.now g.C.Converter.HONEST g.C.Converter.turned in
    let h = object_of c.args.h.now in
    let x = object_of c.in-Ok.form in
    some_more (λ (p : Shape). IsTrue (c.args.v == c.args.storage) × (shaped p h ≡ x)) (λ (p : Shape). IsForm k c.args.storage h (shaped p h)) c.kept.result
    (λ p t. shaped_form k c.args.v c.args.storage h x (shaped p h) (same_number c.args.v c.args.storage t.0) t.1 c.in-Ok.ensures.back.near c.in-Ok.ensures.back.there) c.kept.ensures
