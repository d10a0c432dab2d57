use Rattle.std.proofs.Common.{◌≡◌, ◌+◌, ◌≤◌, ◌<◌, ◌∙◌, ◌++◌, sym, ap, length, take, drop, arith, rules, nat_eq, position, Some, None, List}
use Rattle.std.proofs.lemmas.List.{length-take}
use Rattle.std.specs.Option.{option_or}
use Rattle.record_store.specs.Rows.{row_key}
use Rattle.record_store.specs.declared.row.Row.{Row}
use Rattle.record_store.specs.Standing.{first_held, row_at}
use Rattle.record_store.proofs.Standings.{turn_found, turn_none}
use Rattle.record_store.proofs.Steps.{next_at}
use Rattle.record_store.proofs.held_versions.first_in.Goals as goal
use Rattle.record_store.proofs.held_versions.first_in.Goals.{in-Some, in_default}

pub loop-row-preserved : goal.loop-row-preserved
loop-row-preserved c =
    let vs = c.args.versions.now in
    let rows = c.args.rows.now in
    let i = c.loop-row.row-index in
    let row = c.row-item.result in
    let inside : c.loop-row.row-index < length c.args.rows.now = omega arith in
    let next = next_at rows i row inside c.row-item.is in
    elim c.match-place_of.branch [
      | in-Some w ↦ (
          let at_place : position (λ v. nat_eq v (row_at c.row-item.result)) (take c.loop-row.left c.args.versions.now) ≡ Some w.in-Some.place = search rules in
          let front : w.in-Some.place < length (take c.loop-row.left c.args.versions.now) = search rules in
          let short = length-take c.loop-row.left c.args.versions.now in
          let below : w.in-Some.place ≤ c.loop-row.left = omega (arith, front, short) in
          record {
            inside = omega (arith, w.left-is, below);
            rest = rw (w.left-is, w.found-is, w.spot.ensures) (λ more.
                turn_found row_at row_key vs c.loop-row.left row (drop (i + 1) rows ++ more) w.in-Some.place c.loop-row.found _ below at_place (
                ap (λ (l : List Row). option_or (first_held row_at row_key (take c.loop-row.left vs) (l ++ more)) c.loop-row.found) (sym next) ∙ c.loop-row.invariant.rest more
                ));
          })
      | in_default w ↦ (
          let none : position (λ v. nat_eq v (row_at c.row-item.result)) (take c.loop-row.left c.args.versions.now) ≡ None = search rules in
          record {
            inside = omega (arith, w.left-is);
            rest = rw (w.left-is, w.found-is) (λ more.
                turn_none row_at row_key (take c.loop-row.left vs) row (drop (i + 1) rows ++ more) c.loop-row.found _ none (
                ap (λ (l : List Row). option_or (first_held row_at row_key (take c.loop-row.left vs) (l ++ more)) c.loop-row.found) (sym next) ∙ c.loop-row.invariant.rest more
                ));
          })
    ]
