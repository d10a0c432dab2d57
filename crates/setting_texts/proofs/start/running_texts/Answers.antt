use Rattle.std.proofs.Common.{◌∙◌, arith}
use Rattle.setting_texts.proofs.Starting.{texts-step}
use Rattle.setting_texts.proofs.start.running_texts.Goals as goal

pub loop-v-preserved : goal.loop-v-preserved
loop-v-preserved g c =
    let m = g.V.Versions.meaning c.args.lent.now.versions.now in
    let name = c.args.name.now in
    let text = c.in_ok-text.ensures name (c.as_str.ensures.value ∙ c.in_ok-front.ensures) in
    let step = texts-step m name c.loop-v.v c.loop-v.texts.items c.push.new.self.items c.in_ok-text.text c.loop-v.invariant.texts c.loop-v.invariant.count text c.in_ok-push.ensures.items in
    let count = step.1 in
    record { texts = step.0; count = omega (arith, count) }
