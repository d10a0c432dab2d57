use Rattle.std.proofs.Common.{◌∙◌, refl, []}
use Rattle.document_text.proofs.Putting.{put_next}
use Rattle.document_text.proofs.numbers.numbered.Goals as goal

pub returns : goal.returns
returns c = λ x b.
    let e1 = put_next _ _ [] _ _ c.in_ok-push_str.ensures.bytes refl c.in_ok-whole.ensures.bytes in
    let e2 = put_next _ _ _ _ _ c.in_ok-push_str-2.ensures.bytes refl e1 in
    let e3 = put_next _ _ _ _ _ c.in_ok-push_str-3.ensures.bytes refl e2 in
    let e4 = put_next _ _ _ _ _ c.in_ok-push_str-4.ensures.bytes refl e3 in
    let e5 = put_next _ _ _ _ _ c.in_ok-push_str-5.ensures.bytes refl e4 in
    let e6 = put_next _ _ _ _ _ c.in_ok-push_str-6.ensures.bytes refl e5 in
    let e7 = put_next _ _ _ _ _ c.in_ok-push_str-7.ensures.bytes refl e6 in
    let e8 = put_next _ _ _ _ _ c.in_ok-push_str-8.ensures.bytes refl e7 in
    c.of_string.ensures ∙ e8 ∙ c.parts.ensures.parts x b c.args.number.now c.args.uid.now c.requires.number c.requires.uid
