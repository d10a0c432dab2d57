use Rattle.std.proofs.Common.{ℕ, List, map, refl, sym, ap, subst, ◌∙◌, arith}
use Rattle.kj_value.specs.Texts.{text_pair}
use Rattle.kj_value.specs.Fields.{with_field, AreInOrder}
use Rattle.kj_value.proofs.Order.{order_names, order-with}
use Rattle.kj_value.proofs.Places.{hit, miss, replaced_at, inserted_at}
use Rattle.kj_value.proofs.texts.TextMap.set.Goals as goal

pub seek_last-requires : goal.seek_last-requires
seek_last-requires c = rw c.as_slice.ensures.value (order_names text_pair _ c.self.invariant)

pub index_mut-requires : goal.index_mut-requires
index_mut-requires c =
    let h = hit text_pair _ _ _ _ c.as_slice.ensures.value c.in-Ok.ensures in
    omega (arith, h.within, c.self.inside.fields.ok.0)

pub invariant_of-self : goal.invariant_of-self
invariant_of-self c =
    let h = hit text_pair _ _ _ _ c.as_slice.ensures.value c.in-Ok.ensures in
    subst (λ (es : List (List ℕ × List ℕ)). AreInOrder es) (sym (replaced_at text_pair _ _ _ _ _ _ h c.index_mut.ensures.value c.as_str.ensures refl)) (order-with c.args.name.bytes c.args.v.bytes (map text_pair c.self.inside.fields.items) c.self.invariant)

pub insert-requires : goal.insert-requires
insert-requires c =
    let h = miss text_pair _ _ _ _ c.as_slice.ensures.value c.in-Err.ensures in
    omega (arith, h.within, c.self.inside.fields.ok.0)

pub invariant_of-self-in-Err : goal.invariant_of-self-in-Err
invariant_of-self-in-Err c =
    let h = miss text_pair _ _ _ _ c.as_slice.ensures.value c.in-Err.ensures in
    subst (λ (es : List (List ℕ × List ℕ)). AreInOrder es) (sym (ap (map text_pair) c.in_ok-insert-in-Err.ensures.items ∙ inserted_at text_pair _ _ _ (record { name = c.args.name; value = c.args.v }) h c.as_str.ensures)) (order-with c.args.name.bytes c.args.v.bytes (map text_pair c.self.inside.fields.items) c.self.invariant)

pub returns-in-Ok-clause-ok : goal.returns-in-Ok-clause-ok
returns-in-Ok-clause-ok c =
    let h = hit text_pair _ _ _ _ c.as_slice.ensures.value c.in-Ok.ensures in
    replaced_at text_pair _ _ _ _ _ _ h c.index_mut.ensures.value c.as_str.ensures refl ∙ ap (with_field c.args.name.bytes c.args.v.bytes) c.self.view_is

pub returns-in_ok-insert-in-Err-clause-ok : goal.returns-in_ok-insert-in-Err-clause-ok
returns-in_ok-insert-in-Err-clause-ok c =
    let h = miss text_pair _ _ _ _ c.as_slice.ensures.value c.in-Err.ensures in
    ap (map text_pair) c.in_ok-insert-in-Err.ensures.items ∙ inserted_at text_pair _ _ _ (record { name = c.args.name; value = c.args.v }) h c.as_str.ensures ∙ ap (with_field c.args.name.bytes c.args.v.bytes) c.self.view_is
