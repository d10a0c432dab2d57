use Rattle.std.proofs.Common.{List, map, sym, subst, ◌∙◌, refl, arith}
use Rattle.record_store.specs.ByKey.{KeysRise}
use Rattle.record_store.specs.declared.page.Pick.{Pick}
use Rattle.record_store.specs.inner.Picked.{pick_key}
use Rattle.record_store.proofs.Sorted.{hit_of, miss_of, rise-put}
use Rattle.record_store.proofs.page.put_pick.Goals as goal

pub index_mut-requires : goal.index_mut-requires
index_mut-requires c =
    let h = hit_of pick_key (pick_key c.args.pick) _ _ _ _ _ c.ns.ensures.value c.name.ensures.value c.as_slice.ensures.value c.in-Ok.ensures in
    omega (arith, h.within, c.args.picks.now.ok.0)

pub insert-requires : goal.insert-requires
insert-requires c =
    let h = miss_of pick_key (pick_key c.args.pick) _ _ _ _ _ c.ns.ensures.value c.name.ensures.value c.as_slice.ensures.value c.in-Err.ensures in
    omega (arith, h.within, c.args.picks.now.ok.0)

pub returns-in-Ok-clause-put : goal.returns-in-Ok-clause-put
returns-in-Ok-clause-put c =
    let h = hit_of pick_key (pick_key c.args.pick) _ _ _ _ _ c.ns.ensures.value c.name.ensures.value c.as_slice.ensures.value c.in-Ok.ensures in
    h.replaced c.args.pick refl

pub returns-in-Ok-clause-order : goal.returns-in-Ok-clause-order
returns-in-Ok-clause-order c =
    let h = hit_of pick_key (pick_key c.args.pick) _ _ _ _ _ c.ns.ensures.value c.name.ensures.value c.as_slice.ensures.value c.in-Ok.ensures in
    subst (λ (ps : List Pick). KeysRise (map pick_key ps)) (sym (h.replaced c.args.pick refl)) (rise-put pick_key c.args.pick _ c.requires)

pub returns-in_ok-insert-in-Err-clause-put : goal.returns-in_ok-insert-in-Err-clause-put
returns-in_ok-insert-in-Err-clause-put c =
    let h = miss_of pick_key (pick_key c.args.pick) _ _ _ _ _ c.ns.ensures.value c.name.ensures.value c.as_slice.ensures.value c.in-Err.ensures in
    c.in_ok-insert-in-Err.ensures.items ∙ h.inserted c.args.pick refl

pub returns-in_ok-insert-in-Err-clause-order : goal.returns-in_ok-insert-in-Err-clause-order
returns-in_ok-insert-in-Err-clause-order c =
    let h = miss_of pick_key (pick_key c.args.pick) _ _ _ _ _ c.ns.ensures.value c.name.ensures.value c.as_slice.ensures.value c.in-Err.ensures in
    subst (λ (ps : List Pick). KeysRise (map pick_key ps)) (sym (c.in_ok-insert-in-Err.ensures.items ∙ h.inserted c.args.pick refl)) (rise-put pick_key c.args.pick _ c.requires)
