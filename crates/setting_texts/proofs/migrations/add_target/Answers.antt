use Rattle.std.proofs.Common.{◌∙◌, ap, List, ℕ}
use Rattle.kj_value.specs.Text.{quoted}
use Rattle.call_texts.specs.PageTexts.{two_ends}
use Rattle.call_texts.proofs.Pieces.{known, onward}
use Rattle.setting_texts.proofs.migrations.add_target.Goals as goal

pub returns : goal.returns
unfolding two_ends
returns g c =
    let m = g.V.Versions.meaning c.args.lent.now.versions.now in
    let storage = known (quoted (m.name c.args.target)) (c.as_str-2.ensures ∙ c.in_ok-storage.ensures ∙ ap (λ (t : List ℕ). quoted t) (c.as_str.ensures ∙ c.name.ensures)) c.in_ok-add.ensures in
    onward storage c.in_ok-add-2.ensures
