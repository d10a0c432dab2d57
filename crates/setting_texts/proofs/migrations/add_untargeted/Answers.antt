use Rattle.std.proofs.Common.{◌∙◌}
use Rattle.kj_value.specs.Text.{quoted}
use Rattle.api_calls.specs.Documents.{condition_word}
use Rattle.setting_texts.specs.inner.SettingTexts.{before_name, before_storage, resource_text}
use Rattle.call_texts.proofs.Pieces.{known, onward}
use Rattle.setting_texts.proofs.migrations.add_untargeted.Goals as goal

pub returns : goal.returns
unfolding before_name before_storage
returns g c =
    let m = g.V.Versions.meaning c.args.lent.now.versions.now in
    let name = known (quoted c.args.name.now) (c.as_str.ensures ∙ c.in_ok-name.ensures) c.in_ok-add-2.ensures in
    let resource = known (resource_text m) c.requires.resource c.in_ok-add-3.ensures in
    let condition = known (condition_word c.args.condition) c.condition_word.ensures c.in_ok-add-4.ensures in
    onward c.in_ok-add.ensures (onward name (onward resource (onward condition c.in_ok-add-5.ensures)))
