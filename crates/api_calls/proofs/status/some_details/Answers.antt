use Rattle.std.proofs.Common.{refl, ap, Some}
use Rattle.kj_value.specs.Json.{Json}
use Rattle.api_calls.proofs.Fields.{put_next, given_next, details_fields}
use Rattle.api_calls.proofs.status.some_details.Goals as goal

pub returns : goal.returns
returns c =
    let e1 = given_next _ _ _ _ _ c.in_ok-put_given.ensures c.new-fields.ensures in
    let e2 = put_next _ _ _ _ _ _ c.in_ok-put_text.ensures refl e1 in
    let e3 = put_next _ _ _ _ _ _ c.in_ok-put_text-2.ensures refl e2 in
    let e4 = put_next _ _ _ _ _ _ c.in_ok-put_text-3.ensures refl e3 in
    ap (λ (j : Json). Some j) (details_fields _ _ _ _ _ e4)
