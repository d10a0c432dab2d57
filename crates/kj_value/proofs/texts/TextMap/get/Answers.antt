use Rattle.std.proofs.Common.{◌≡◌, Some, map, sym, ap, ◌∙◌, arith}
use Rattle.kj_value.specs.Texts.{text_pair}
use Rattle.kj_value.specs.Fields.{field}
use Rattle.kj_value.specs.declared.texts.TextField.{TextField}
use Rattle.kj_value.proofs.Order.{order_names}
use Rattle.kj_value.specs.laws.Place.{place_hit, place_miss}
use Rattle.kj_value.proofs.Places.{hit, miss}
use Rattle.kj_value.proofs.texts.TextMap.get.Goals as goal

pub find-requires : goal.find-requires
find-requires c = rw c.as_slice.ensures.value (order_names text_pair _ c.self.invariant)

pub index-requires : goal.index-requires
index-requires c =
    let h = hit text_pair _ _ _ _ c.as_slice.ensures.value (place_hit _ _ c.in-Some.ensures) in
    omega (arith, h.within, c.self.inside.fields.ok.0)

pub returns-in-Some : goal.returns-in-Some
returns-in-Some c =
    let h = hit text_pair _ _ _ _ c.as_slice.ensures.value (place_hit _ _ c.in-Some.ensures) in
    let e : field c.args.name.now (map text_pair c.self.inside.fields.items) ≡ Some c.index.result.now.value.bytes =
    h.value c.index.result.now ∙ ap (λ (f : TextField). Some f.value.bytes) (sym c.index.ensures) in
    sym e ∙ ap (field c.args.name.now) c.self.view_is

pub returns-in-None : goal.returns-in-None
returns-in-None c =
    let h = miss text_pair _ _ _ _ c.as_slice.ensures.value (place_miss _ c.in-None.ensures).1 in
    sym (h.value (order_names text_pair _ c.self.invariant)) ∙ ap (field c.args.name.now) c.self.view_is
