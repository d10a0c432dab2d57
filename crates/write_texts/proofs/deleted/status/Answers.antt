use Rattle.std.proofs.Common.{refl, ap}
use Rattle.kj_value.specs.Fields.{Pairs}
use Rattle.kj_value.specs.Json.{members_of, object}
use Rattle.write_texts.proofs.StatusFields.{put_next, status_fields}
use Rattle.write_texts.proofs.deleted.status.Goals as goal

pub returns : goal.returns
returns g c =
    let e1 = put_next _ _ _ _ _ _ c.in_ok-put_text.ensures refl c.new-fields.ensures in
    let e2 = put_next _ _ _ _ _ _ c.in_ok-put.ensures c.in_ok-details.ensures e1 in
    let e3 = put_next _ _ _ _ _ _ c.in_ok-put_text-2.ensures refl e2 in
    let e4 = put_next _ _ _ _ _ _ c.in_ok-put-2.ensures (ap (λ (es : Pairs). object (members_of es)) c.new.ensures) e3 in
    let e5 = put_next _ _ _ _ _ _ c.in_ok-put_text-3.ensures refl e4 in
    status_fields _ (g.V.Versions.meaning c.args.lent.now.versions.now) c.args.name.now c.args.id.bytes e5
