use Rattle.std.proofs.Common.{refl, ◌∙◌, []}
use Rattle.api_calls.specs.Status.{message_of}
use Rattle.api_calls.proofs.Fields.{added_next}
use Rattle.api_calls.proofs.message.invalid.Goals as goal

pub returns : goal.returns
unfolding message_of
returns c =
    let e1 = added_next _ _ [] _ _ c.in_ok-push_str.ensures.bytes c.as_str.ensures c.new-message.ensures.bytes in
    let e2 = added_next _ _ _ _ _ c.in_ok-push_str-2.ensures.bytes refl e1 in
    let e3 = added_next _ _ _ _ _ c.in_ok-push_str-3.ensures.bytes c.as_str-2.ensures e2 in
    let e4 = added_next _ _ _ _ _ c.in_ok-push_str-4.ensures.bytes refl e3 in
    let e5 = added_next _ _ _ _ _ c.in_ok-push_str-5.ensures.bytes c.as_str-3.ensures e4 in
    let e6 = added_next _ _ _ _ _ c.in_ok-push_str-6.ensures.bytes refl e5 in
    let e7 = added_next _ _ _ _ _ c.in_ok-push_str-7.ensures.bytes c.word.ensures e6 in
    c.of_string.ensures ∙ e7
