use Rattle.std.proofs.Common.{◌≡◌, ◌∷◌, [], map, ap, ◌∙◌, rules, arith}
use Rattle.std.proofs.lemmas.List.{nil_from_length}
use Rattle.std.specs.Vec.Iter.{into_iter_items}
use Rattle.kj_value.specs.Texts.{text_pair}
use Rattle.spoke_keep.specs.inner.Seen.{own_name}
use Rattle.spoke_keep.proofs.Loops.{move_start, move_next, move_all, move_bad}
use Rattle.spoke_keep.proofs.carrying.carried_over.Goals as goal

pub loop-t-preserved : goal.loop-t-preserved
loop-t-preserved c =
    let step : into_iter_items c.loop-t.t-iterator ≡ c.in-Some.t ∷ into_iter_items c.next.new.self = c.in-Some.ensures.steps.0 in
    move_next c.args.all.now (own_name c.args.own) c.args.body.now (into_iter_items c.loop-t.t-iterator) (into_iter_items c.next.new.self) c.in-Some.t c.args.annotations c.loop-t.notes c.carry_one.new.notes step c.into_vec-t-items.ensures.order c.loop-t.invariant c.in-Ok.ensures.ok

pub returns-in-Err-clause-err : goal.returns-in-Err-clause-err
returns-in-Err-clause-err c =
    let step : into_iter_items c.loop-t.t-iterator ≡ c.in-Some.t ∷ into_iter_items c.next.new.self = c.in-Some.ensures.steps.0 in
    move_bad c.args.all.now (own_name c.args.own) c.args.body.now (into_iter_items c.loop-t.t-iterator) (into_iter_items c.next.new.self) c.in-Some.t c.args.annotations c.loop-t.notes _ step c.into_vec-t-items.ensures.order c.loop-t.invariant c.requires.hub c.in-Err.ensures.err

pub loop-t-init : goal.loop-t-init
loop-t-init c =
    let rest : into_iter_items c.into_iter-t-iterator.result ≡ c.into_vec-t-items.result.items = first_of (search rules, cc) in
    move_start c.args.all.now (own_name c.args.own) c.args.body.now _ c.args.annotations _ (ap (map text_pair) rest ∙ c.into_vec-t-items.ensures.value) c.new-notes.ensures

pub returns-clause-ok : goal.returns-clause-ok
returns-clause-ok c =
    let none : into_iter_items c.loop-t.t-iterator ≡ [] = nil_from_length _ (grind (arith, c.in-None.ensures.steps.0)) in
    move_all c.args.all.now (own_name c.args.own) c.args.body.now (into_iter_items c.loop-t.t-iterator) c.args.annotations c.loop-t.notes none c.loop-t.invariant
