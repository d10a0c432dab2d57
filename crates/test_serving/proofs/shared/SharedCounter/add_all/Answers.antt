use Rattle.std.proofs.Common.{ℕ, ◌≡◌, ◌+◌, List, [], ◌∷◌, ◌++◌, take, get_or, ap, sym, ◌∙◌, subst, rules}
use Rattle.std.proofs.lemmas.List.{take_all, take_more}
use Rattle.turn_cell.specs.declared.view.View.{View}
use Rattle.test_serving.specs.declared.counter.AddEnd.{AddEnd}
use Rattle.test_serving.specs.Calls.{ServesAsCounter}
use Rattle.test_serving.proofs.Serving.{serves_more}
use Rattle.test_serving.proofs.shared.SharedCounter.add_all.Goals as goal

pub loop-x-preserved : goal.loop-x-preserved
loop-x-preserved g c = record {
  own = search rules;
  count = search rules;
  served = λ limit is.
      let v = c.args.pass.now.turn.seat.me.0 in
      let u = c.loop-x.pass.turn.seat.me.0 in
      let z = c.add-end.new.pass.turn.seat.me.0 in
      let xs = c.args.xs.now in
      let i : ℕ = c.loop-x.x-index in
      let q = c.loop-x.invariant.served limit is in
      let a = c.add-end.ensures.answer limit (ap (λ (k : View ℕ). k.base) q.0 ∙ is) in
      let m = serves_more limit v u z (take i xs) c.loop-x.ends.items (get_or xs i 0) c.add-end.result q.0 q.1 a in
      let longer : take (i + 1) xs ≡ take i xs ++ get_or xs i 0 ∷ [] = take_more xs i 0 c.loop-x-test.true in
      (m.0, subst (λ (k : List ℕ × List AddEnd). ServesAsCounter limit v v.seen k.0 k.1 z.seen) (λ j. (sym longer j, sym c.push_reserved.ensures.items j)) m.1);
}

pub returns-clause-served : goal.returns-clause-served
returns-clause-served g c limit is =
    let q = c.loop-x.invariant.served limit is in
    let whole : take c.loop-x.x-index c.args.xs.now ≡ c.args.xs.now = take_all c.loop-x.x-index c.args.xs.now c.loop-x-test.false in
    (q.0, subst (λ (k : List ℕ). ServesAsCounter limit c.args.pass.now.turn.seat.me.0 c.args.pass.now.turn.seat.me.0.seen k c.loop-x.ends.items c.loop-x.pass.turn.seat.me.0.seen) whole q.1)
