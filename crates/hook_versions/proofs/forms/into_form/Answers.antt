use Rattle.std.proofs.Common.{◌∙◌, refl, sym}
use Rattle.kube_meta.specs.View.{object_of}
use Rattle.hook_versions.specs.Facts.{hooked}
use Rattle.hook_versions.proofs.Forming.{itself}
use Rattle.hook_versions.proofs.Objects.{whole_standing}
use Rattle.hook_versions.proofs.Turned.{becomes_itself}
use Rattle.hook_versions.proofs.forms.into_form.Goals as goal

pub returns-then-v-hub-clause-form : goal.returns-then-v-hub-clause-form
returns-then-v-hub-clause-form g c =
    let k = hooked c.args.set.now g.C.Converter.HONEST g.C.Converter.turned in
    let h = object_of c.args.hub in
    itself k c.args.v h (whole_standing k h c.requires.whole) (c.if-v-hub.true ∙ c.hub.ensures.value)

pub returns-then-v-hub-clause-becomes : goal.returns-then-v-hub-clause-becomes
returns-then-v-hub-clause-becomes g c =
    becomes_itself c.args.set.now (g.C.Converter.turns c.args.tool.now) c.args.set.now.hub (object_of c.args.hub) (object_of c.args.hub) c.args.v
    (sym (c.if-v-hub.true ∙ c.hub.ensures.value)) refl

pub returns-then-v-hub-clause-levels : goal.returns-then-v-hub-clause-levels
returns-then-v-hub-clause-levels g c =
    let k = hooked c.args.set.now g.C.Converter.HONEST g.C.Converter.turned in
    (whole_standing k (object_of c.args.hub) c.requires.whole).sent.levels
