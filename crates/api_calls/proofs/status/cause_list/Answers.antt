use Rattle.std.proofs.Common.{refl, ap, [], ◌∷◌}
use Rattle.kj_value.specs.Json.{list, object, items_of, members_of}
use Rattle.kj_value.specs.Fields.{Pairs}
use Rattle.api_calls.specs.Status.{cause_list}
use Rattle.api_calls.proofs.Fields.{put_next}
use Rattle.api_calls.proofs.status.cause_list.Goals as goal

pub returns : goal.returns
unfolding cause_list
returns c =
    let e1 = put_next _ _ _ _ _ _ c.in_ok-put_text.ensures refl c.new-fields.ensures in
    let e2 = put_next _ _ _ _ _ _ c.in_ok-put_text-2.ensures refl e1 in
    let e3 = put_next _ _ _ _ _ _ c.in_ok-put_text-3.ensures refl e2 in
    rw (c.in_ok-push.ensures.ok, c.new-causes.ensures) (ap (λ (es : Pairs). list (items_of (object (members_of es) ∷ []))) e3)
