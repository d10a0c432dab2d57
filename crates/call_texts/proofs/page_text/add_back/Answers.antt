use Rattle.std.proofs.Common.{◌∙◌, refl}
use Rattle.std.specs.Prelude.{decimal}
use Rattle.kj_value.specs.Text.{quoted}
use Rattle.call_texts.specs.PageTexts.{before_continue, before_list_kind, before_revision, two_ends}
use Rattle.call_texts.proofs.Pieces.{known, onward}
use Rattle.call_texts.proofs.page_text.add_back.Goals as goal

pub returns : goal.returns
unfolding before_list_kind before_continue before_revision two_ends
returns g c =
    let m = g.V.Versions.meaning c.args.versions.now in
    let kind = known (quoted m.list_kind) (c.as_str-2.ensures ∙ c.in_ok-kind.ensures ∙ (rw (c.as_str.ensures, c.list_kind.ensures) refl)) c.in_ok-add-2.ensures in
    let token = known (quoted c.args.token.now) (c.as_str-3.ensures ∙ c.in_ok-token.ensures) c.in_ok-add-4.ensures in
    let number = known (quoted (decimal c.args.number)) (c.as_str-4.ensures ∙ c.in_ok-number.ensures ∙ (rw c.format.ensures.text refl)) c.in_ok-add-6.ensures in
    onward c.in_ok-add.ensures (onward kind (onward c.in_ok-add-3.ensures (onward token (onward c.in_ok-add_left.ensures (onward c.in_ok-add-5.ensures (onward number c.in_ok-add-7.ensures))))))
