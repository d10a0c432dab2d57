use Rattle.std.proofs.Common.{refl, ap}
use Rattle.kj_value.specs.Json.{object, members_of}
use Rattle.kj_value.specs.Fields.{Pairs}
use Rattle.api_calls.proofs.Fields.{put_next, given_next, status_fields}
use Rattle.api_calls.proofs.status.status_of.Goals as goal

pub returns : goal.returns
returns c =
    let e1 = put_next _ _ _ _ _ _ c.in_ok-put_text.ensures refl c.new-fields.ensures in
    let e2 = put_next _ _ _ _ _ _ c.in_ok-put_code.ensures refl e1 in
    let e3 = given_next _ _ _ _ _ c.in_ok-put_given.ensures e2 in
    let e4 = put_next _ _ _ _ _ _ c.in_ok-put_text-2.ensures refl e3 in
    let e5 = put_next _ _ _ _ _ _ c.in_ok-put.ensures refl e4 in
    let e6 = put_next _ _ _ _ _ _ c.in_ok-put-2.ensures (ap (λ (es : Pairs). object (members_of es)) c.new.ensures) e5 in
    let e7 = put_next _ _ _ _ _ _ c.in_ok-put_text-3.ensures refl e6 in
    let e8 = put_next _ _ _ _ _ _ c.in_ok-put_text-4.ensures refl e7 in
    status_fields _ _ _ _ _ e8
