use Rattle.std.proofs.Common.{◌∙◌, ap, List, ℕ}
use Rattle.kj_value.specs.Text.{quoted}
use Rattle.api_calls.specs.Documents.{group_version}
use Rattle.setting_texts.specs.inner.SettingTexts.{before_group_version, before_name_alone, one_end}
use Rattle.call_texts.proofs.Pieces.{known, onward}
use Rattle.setting_texts.proofs.groups.add_member.Goals as goal

pub returns : goal.returns
unfolding before_group_version before_name_alone one_end
returns g c =
    let m = g.V.Versions.meaning c.args.lent.now.versions.now in
    let version = known (quoted (group_version m c.args.v)) (c.as_str-2.ensures ∙ c.in_ok-version.ensures) c.in_ok-add-2.ensures in
    let name = known (quoted (m.name c.args.v)) (c.as_str-3.ensures ∙ c.in_ok-name.ensures ∙ ap (λ (t : List ℕ). quoted t) (c.as_str.ensures ∙ c.name.ensures)) c.in_ok-add-4.ensures in
    onward c.in_ok-add.ensures (onward version (onward c.in_ok-add-3.ensures (onward name c.in_ok-add-5.ensures)))
