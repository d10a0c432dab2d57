use Rattle.std.proofs.Common.{◌≡◌, ◌+◌, ◌-◌, ◌≤◌, ◌++◌, List, length, drop, sym, subst, ◌∙◌, arith}
use Rattle.std.proofs.lemmas.List.{length-drop, take_all}
use Rattle.record_store.specs.declared.row.Row.{Row}
use Rattle.record_store.proofs.Packed.{run-back}
use Rattle.record_store.proofs.block.Block.run.Goals as goal

pub returns-clause-rows : goal.returns-clause-rows
returns-clause-rows c =
    let front = c.as_slices.result.0.now in
    let back = c.as_slices.result.1.now in
    let k = c.args.place - length c.as_slices.result.0.now in
    let place : c.args.place ≡ length c.as_slices.result.0.now + (c.args.place - length c.as_slices.result.0.now) = omega arith in
    let short : length (drop (c.args.place - length c.as_slices.result.0.now) c.as_slices.result.1.now) ≤ length c.as_slices.result.1.now - (c.args.place - length c.as_slices.result.0.now) = omega (arith, length-drop (c.args.place - length c.as_slices.result.0.now) c.as_slices.result.1.now) in
    subst (λ (l : List Row). l ++ drop (c.args.place + length l) c.args.self.now ≡ drop c.args.place c.args.self.now)
    (sym (take_all (length c.as_slices.result.1.now - k) (drop k back) short)) (run-back front back c.args.self.now c.args.place k (c.as_slices.ensures.items ∙ c.self.view_is) place)
