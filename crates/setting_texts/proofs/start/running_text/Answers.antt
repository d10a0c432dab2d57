use Rattle.std.proofs.Common.{◌∙◌, ◌++◌, ap, List, ℕ}
use Rattle.setting_texts.specs.inner.SettingTexts.{target_text}
use Rattle.call_texts.proofs.Pieces.{onward}
use Rattle.setting_texts.proofs.Starting.{running-text}
use Rattle.setting_texts.proofs.start.running_text.Goals as goal

pub returns : goal.returns
returns g c = λ name is.
    let m = g.V.Versions.meaning c.args.lent.now.versions.now in
    c.of_string.ensures
    ∙ ((onward c.in_ok-add.ensures c.in_ok-add_target.ensures).text
    ∙ (ap (λ (t : List ℕ). t ++ (c.args.front.now ++ target_text m c.args.target)) c.new-text.ensures.bytes
    ∙ (ap (λ (t : List ℕ). t ++ target_text m c.args.target) is ∙ running-text m name c.args.target)))
