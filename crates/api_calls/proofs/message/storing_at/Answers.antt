use Rattle.std.proofs.Common.{refl, ◌∙◌, []}
use Rattle.api_calls.specs.Status.{storing_text}
use Rattle.api_calls.proofs.Fields.{added_next}
use Rattle.api_calls.proofs.message.storing_at.Goals as goal

pub returns : goal.returns
unfolding storing_text
returns c =
    let e1 = added_next _ _ [] _ _ c.in_ok-push_str.ensures.bytes refl c.new-message.ensures.bytes in
    let e2 = added_next _ _ _ _ _ c.in_ok-push_str-2.ensures.bytes refl e1 in
    let e3 = added_next _ _ _ _ _ c.in_ok-push_str-3.ensures.bytes refl e2 in
    let e4 = added_next _ _ _ _ _ c.in_ok-push_str-4.ensures.bytes c.ns.ensures.value e3 in
    let e5 = added_next _ _ _ _ _ c.in_ok-push_str-5.ensures.bytes refl e4 in
    let e6 = added_next _ _ _ _ _ c.in_ok-push_str-6.ensures.bytes c.name.ensures.value e5 in
    c.of_string.ensures ∙ e6
