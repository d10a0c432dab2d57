use Rattle.std.proofs.Common.{◌≡◌, ◌+◌, ◌-◌, ◌≤◌, ◌++◌, ℕ, zero, List, length, take, drop, ap, ap₂, sym, subst, ◌∙◌, arith}
use Rattle.std.proofs.lemmas.List.{length-take}
use Rattle.std.specs.Prelude.{option_copied}
use Rattle.record_store.specs.Rows.{row_key}
use Rattle.record_store.specs.declared.row.Row.{Row}
use Rattle.record_store.specs.declared.page.Pick.{Pick}
use Rattle.record_store.specs.inner.Picked.{ends, merged, no_rows, rows_in, shown_in, standing, with_more}
use Rattle.record_store.proofs.Among.{among-merged}
use Rattle.record_store.proofs.Steps.{cut-run, rows-rise, with_more-nothing}
use Rattle.record_store.proofs.page.listed.Goals as goal

pub loop-place-init : goal.loop-place-init
loop-place-init c =
    let ns = option_copied c.args.ns in
    let after = option_copied c.args.after in
    let rows = c.args.index.now.rows in
    let part = take (c.stretch-place.result.to - c.stretch-place.result.from) (drop c.stretch-place.result.from rows) in
    let olds = rows_in c.in_ok-olds.olds.items in
    record {
      within = omega arith;
      inside = c.stretch-place.ensures.order;
      counted = omega arith;
      rows =
          ap (λ (ps : List Pick). with_more c.args.limit (record { rows = rows_in ps; behind = 0 }) (merged row_key (standing c.args.rv part) olds)) c.new.ensures.items
          ∙ ap (with_more c.args.limit no_rows)
          (ap₂ (λ (l m : List Row). merged row_key (standing c.args.rv l) m) (sym c.stretch-place.ensures.rows) c.in_ok-olds.ensures
          ∙ among-merged ns after c.args.rv rows (rows_in c.args.olds.now) c.stretch-place.ensures.rising (rows-rise c.args.olds.now c.requires.order));
    }

pub loop-place-preserved : goal.loop-place-preserved
loop-place-preserved c =
    let rows = c.args.index.now.rows in
    let olds = c.in_ok-olds.olds.items in
    let run = c.run-run.result.now in
    let count = c.min-count.result in
    let to = c.stretch-place.result.to in
    let place = c.loop-place.place in
    let short : c.min-count.result ≤ length c.run-run.result.now = omega (arith, c.min-count.ensures) in
    let upto : c.loop-place.place + c.min-count.result ≤ c.stretch-place.result.to = omega (arith, c.min-count.ensures, c.loop-place.invariant.inside) in
    let long = ap (λ (ps : List Pick). length ps) c.as_slice.ensures.value in
    let step =
    subst (λ (ps : List Pick).
    (rest : List Row) → ends c.merge_run.new.listing (merged row_key (standing c.args.rv rest) (rows_in (drop c.in_ok-from.from ps)))
    ≡ ends c.loop-place.listing (merged row_key (standing c.args.rv (take c.min-count.result c.run-run.result.now ++ rest)) (rows_in (drop c.loop-place.from ps)))) c.as_slice.ensures.value c.in_ok-from.ensures.merged in
    record {
      within = omega (arith, c.in_ok-from.ensures.within, long);
      inside = upto;
      counted = omega (arith, c.in_ok-from.ensures.counted, c.loop-place.invariant.counted, length-take c.min-count.result c.run-run.result.now);
      rows =
          step (take (to - (place + count)) (drop (place + count) rows))
          ∙ ap (λ (l : List Row). ends c.loop-place.listing (merged row_key (standing c.args.rv l) (rows_in (drop c.loop-place.from olds)))) (cut-run run rows place count to c.run-run.ensures.rows short upto)
          ∙ c.loop-place.invariant.rows;
    }

pub returns : goal.returns
returns c =
    let rows = c.args.index.now.rows in
    let none : zero ≡ c.stretch-place.result.to - c.loop-place.place = omega arith in
    sym (with_more-nothing c.offer_all.new.listing.limit (shown_in c.offer_all.new.listing))
    ∙ c.in_ok-offer_all.ensures
    ∙ ap (λ (ps : List Pick). ends c.loop-place.listing (rows_in (drop c.loop-place.from ps))) c.as_slice-2.ensures.value
    ∙ ap (λ (n : ℕ). ends c.loop-place.listing (merged row_key (standing c.args.rv (take n (drop c.loop-place.place rows))) (rows_in (drop c.loop-place.from c.in_ok-olds.olds.items)))) none
    ∙ c.loop-place.invariant.rows
