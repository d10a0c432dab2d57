use Rattle.std.proofs.Common.{Some, sym, ap, ◌∙◌, arith}
use Rattle.kj_value.specs.Texts.{text_pair}
use Rattle.kj_value.specs.Fields.{field, without_field}
use Rattle.kj_value.specs.declared.texts.TextField.{TextField}
use Rattle.kj_value.proofs.Order.{order_names, order-without}
use Rattle.kj_value.specs.laws.Place.{place_hit, place_miss}
use Rattle.kj_value.proofs.Places.{hit, miss}
use Rattle.kj_value.proofs.texts.TextMap.remove.Goals as goal

pub find-requires : goal.find-requires
find-requires c = rw c.as_slice.ensures.value (order_names text_pair _ c.self.invariant)

pub remove-value-requires : goal.remove-value-requires
remove-value-requires c =
    let h = hit text_pair _ _ _ _ c.as_slice.ensures.value (place_hit _ _ c.in-Some.ensures) in
    omega (arith, h.within, c.self.inside.fields.ok.0)

pub invariant_of-self : goal.invariant_of-self
invariant_of-self c =
    let h = hit text_pair _ _ _ _ c.as_slice.ensures.value (place_hit _ _ c.in-Some.ensures) in
    rw (c.remove-value.ensures.items, h.removed) (order-without c.args.name.now _ c.self.invariant)

pub returns-in-Some-clause-value : goal.returns-in-Some-clause-value
returns-in-Some-clause-value c =
    let h = hit text_pair _ _ _ _ c.as_slice.ensures.value (place_hit _ _ c.in-Some.ensures) in
    ap (λ (f : TextField). Some f.value.bytes) c.remove-value.ensures.value ∙ sym (h.value c.remove-value.result) ∙ ap (field c.args.name.now) c.self.view_is

pub returns-in-Some-clause-fields : goal.returns-in-Some-clause-fields
returns-in-Some-clause-fields c =
    let h = hit text_pair _ _ _ _ c.as_slice.ensures.value (place_hit _ _ c.in-Some.ensures) in
    rw (c.remove-value.ensures.items, h.removed) (ap (without_field c.args.name.now) c.self.view_is)

pub returns-in-None-clause-value : goal.returns-in-None-clause-value
returns-in-None-clause-value c =
    let h = miss text_pair _ _ _ _ c.as_slice.ensures.value (place_miss _ c.in-None.ensures).1 in
    sym (h.value (order_names text_pair _ c.self.invariant)) ∙ ap (field c.args.name.now) c.self.view_is

pub returns-in-None-clause-fields : goal.returns-in-None-clause-fields
returns-in-None-clause-fields c =
    let h = miss text_pair _ _ _ _ c.as_slice.ensures.value (place_miss _ c.in-None.ensures).1 in
    sym c.self.view_is ∙ sym (h.removed (order_names text_pair _ c.self.invariant)) ∙ ap (without_field c.args.name.now) c.self.view_is
