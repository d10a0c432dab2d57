use Rattle.std.proofs.Common.{◌∙◌, ◌++◌, ap, sym, List, ℕ}
use Rattle.setting_texts.specs.inner.SettingTexts.{migration_text}
use Rattle.setting_texts.proofs.Joined.{text_of-migration}
use Rattle.setting_texts.proofs.migrations.migration_text.Goals as goal

pub returns : goal.returns
returns g c =
    let m = g.V.Versions.meaning c.args.lent.now.versions.now in
    c.of_string.ensures ∙ (c.in_ok-add_migration.ensures.text ∙ (ap (λ (t : List ℕ). t ++ migration_text m c.args.migration.now) c.new-text.ensures.bytes ∙ sym (text_of-migration m c.args.migration.now)))
