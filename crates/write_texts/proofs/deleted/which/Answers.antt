use Rattle.std.proofs.Common.{refl, ap, ◌∙◌}
use Rattle.kj_value.specs.Json.{text}
use Rattle.write_texts.proofs.StatusFields.{details_fields, put_next}
use Rattle.write_texts.proofs.deleted.which.Goals as goal

pub returns : goal.returns
returns g c =
    let e1 = put_next _ _ _ _ _ _ c.in_ok-put_text.ensures (ap text (c.as_str.ensures ∙ c.group.ensures)) c.new-fields.ensures in
    let e2 = put_next _ _ _ _ _ _ c.in_ok-put_text-2.ensures (ap text (c.as_str-2.ensures ∙ c.plural.ensures)) e1 in
    let e3 = put_next _ _ _ _ _ _ c.in_ok-put_text-3.ensures refl e2 in
    let e4 = put_next _ _ _ _ _ _ c.in_ok-put.ensures refl e3 in
    details_fields _ (g.V.Versions.meaning c.args.lent.now.versions.now) c.args.name.now c.args.id.bytes e4
