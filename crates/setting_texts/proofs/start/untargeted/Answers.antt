use Rattle.std.proofs.Common.{◌∙◌, ◌++◌, ap, List, ℕ}
use Rattle.kube_meta.specs.declared.limits.Condition.TheVariants.{Running}
use Rattle.setting_texts.specs.inner.SettingTexts.{untargeted_text}
use Rattle.setting_texts.proofs.start.untargeted.Goals as goal

pub returns : goal.returns
returns g c =
    let m = g.V.Versions.meaning c.args.lent.now.versions.now in
    c.in_ok-add_untargeted.ensures.text ∙ ap (λ (t : List ℕ). t ++ untargeted_text m c.args.name.now Running) c.new-text.ensures.bytes
