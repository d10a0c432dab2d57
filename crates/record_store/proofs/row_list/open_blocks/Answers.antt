use Rattle.std.proofs.Common.{List, [], ◌∷◌, ◌++◌, length, ap, ◌∙◌, arith}
use Rattle.std.proofs.lemmas.List.{length-append}
use Rattle.record_store.specs.Blocks.{joined}
use Rattle.record_store.specs.declared.row.Row.{Row}
use Rattle.record_store.proofs.Packed.{none-more, none-packed}
use Rattle.record_store.proofs.row_list.open_blocks.Goals as goal

pub loop-preserved : goal.loop-preserved
loop-preserved c =
    let blocks = c.loop.blocks.items in
    let long = ap (λ (l : List (List Row)). length l) c.in_ok-push.ensures.items in
    record {
      none = ap (λ (l : List (List Row)). length (joined l)) (c.in_ok-push.ensures.items ∙ ap (λ (b : List Row). blocks ++ b ∷ []) c.in_ok-open.ensures) ∙ none-more blocks c.loop.invariant.none;
      count = omega (arith, long, length-append blocks (c.in_ok-open.field-0 ∷ []), c.loop.invariant.count);
    }

pub returns-clause-packed : goal.returns-clause-packed
returns-clause-packed c = none-packed c.loop.blocks.items c.loop.invariant.none
