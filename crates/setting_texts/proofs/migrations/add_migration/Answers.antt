use Rattle.std.proofs.Common.{◌≡◌, ◌∙◌, ◌++◌}
use Rattle.setting_texts.specs.inner.SettingTexts.{migration_text, target_text, untargeted_text}
use Rattle.call_texts.proofs.Pieces.{known, onward}
use Rattle.setting_texts.proofs.Starting.{targeted}
use Rattle.setting_texts.proofs.migrations.add_migration.Goals as goal

pub returns : goal.returns
returns g c =
    let m = g.V.Versions.meaning c.args.lent.now.versions.now in
    let q = c.args.migration.now in
    let same : untargeted_text m c.name.result.now c.condition.result ++ target_text m c.target.result ≡ untargeted_text m q.name q.condition ++ target_text m q.target =
    (λ k. untargeted_text m (c.name.ensures.value k) (c.condition.ensures k) ++ target_text m (c.target.ensures k)) in
    known (migration_text m q) (same ∙ targeted m q) (onward c.in_ok-add_untargeted.ensures c.in_ok-add_target.ensures)
