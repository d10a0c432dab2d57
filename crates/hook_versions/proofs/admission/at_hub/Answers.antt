use Rattle.std.proofs.Common.{◌≡◌, ◌∙◌, ℕ, Some, sym, subst}
use Rattle.kube_meta.specs.View.{object_of}
use Rattle.crd_laws.specs.Hook.{version_text}
use Rattle.hook_versions.specs.Facts.{hooked}
use Rattle.hook_versions.specs.inner.Steps.{Turns}
use Rattle.hook_versions.proofs.Admitting.{put_turned}
use Rattle.hook_versions.proofs.admission.at_hub.Goals as goal

pub returns-in-Ok-clause-put : goal.returns-in-Ok-clause-put
returns-in-Ok-clause-put g c =
    let k = hooked c.args.set.now g.C.Converter.HONEST g.C.Converter.turned in
    let d = c.args.set.now in
    let x = object_of c.args.x in
    let h = object_of c.in-Ok.h in
    let before = g.C.Converter.turns c.args.tool.now in
    let now = g.C.Converter.turns c.turned.new.tool in
    put_turned k before c.args.v x now h c.requires.standing (λ same. c.if-v-hub.false (same ∙ sym c.hub-hub.ensures.value))
    (subst (λ (u : ℕ). Turns d before now x u h) c.hub-hub.ensures.value c.in-Ok.ensures.turns)
    (λ honest. subst (λ (u : ℕ). k.turned x (version_text d u) ≡ Some h) c.hub-hub.ensures.value (c.in-Ok.ensures.turned honest))
