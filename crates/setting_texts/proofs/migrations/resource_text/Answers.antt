use Rattle.std.proofs.Common.{◌∙◌, ap, List, ℕ, ◌++◌}
use Rattle.kj_value.specs.Text.{quoted}
use Rattle.setting_texts.specs.inner.SettingTexts.{before_condition, before_group, before_resource, resource_text}
use Rattle.call_texts.proofs.Pieces.{known, onward}
use Rattle.setting_texts.proofs.migrations.resource_text.Goals as goal

pub returns : goal.returns
unfolding before_group before_resource before_condition
returns g c =
    let m = g.V.Versions.meaning c.args.lent.now.versions.now in
    let group = known (quoted m.group) (c.as_str-3.ensures ∙ c.in_ok-group.ensures ∙ ap (λ (t : List ℕ). quoted t) (c.as_str.ensures ∙ c.group.ensures)) c.in_ok-add-2.ensures in
    let plural = known (quoted m.plural) (c.as_str-4.ensures ∙ c.in_ok-plural.ensures ∙ ap (λ (t : List ℕ). quoted t) (c.as_str-2.ensures ∙ c.plural.ensures)) c.in_ok-add-4.ensures in
    c.of_string.ensures
    ∙ ((onward c.in_ok-add.ensures (onward group (onward c.in_ok-add-3.ensures (onward plural c.in_ok-add-5.ensures)))).text
    ∙ ap (λ (t : List ℕ). t ++ resource_text m) c.new-text.ensures.bytes)
