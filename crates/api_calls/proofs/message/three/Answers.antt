use Rattle.std.proofs.Common.{refl, ◌∙◌, []}
use Rattle.api_calls.proofs.Fields.{added_next}
use Rattle.api_calls.proofs.message.three.Goals as goal

pub returns : goal.returns
returns c =
    let e1 = added_next _ _ [] _ _ c.in_ok-push_str.ensures.bytes refl c.new-text.ensures.bytes in
    let e2 = added_next _ _ _ _ _ c.in_ok-push_str-2.ensures.bytes refl e1 in
    let e3 = added_next _ _ _ _ _ c.in_ok-push_str-3.ensures.bytes refl e2 in
    c.of_string.ensures ∙ e3
