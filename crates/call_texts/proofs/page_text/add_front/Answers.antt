use Rattle.std.proofs.Common.{◌∙◌}
use Rattle.kj_value.specs.Text.{quoted}
use Rattle.api_calls.specs.Documents.{group_version}
use Rattle.call_texts.specs.PageTexts.{before_items, before_version}
use Rattle.call_texts.proofs.Pieces.{known, onward}
use Rattle.call_texts.proofs.page_text.add_front.Goals as goal

pub returns : goal.returns
unfolding before_version before_items
returns g c =
    onward c.in_ok-add.ensures
    (onward (known (quoted (group_version (g.V.Versions.meaning c.args.versions.now) c.args.v)) (c.as_str.ensures ∙ c.in_ok-version.ensures) c.in_ok-add-2.ensures)
    c.in_ok-add-3.ensures)
