use Rattle.std.proofs.Common.{◌∙◌, sym, take, List, arith}
use Rattle.std.proofs.lemmas.List.{at_drop_all}
use Rattle.std.specs.Option.{option_or}
use Rattle.record_store.specs.Rows.{row_key}
use Rattle.record_store.specs.declared.row.Row.{Row}
use Rattle.record_store.specs.Standing.{first_held, row_at}
use Rattle.record_store.proofs.Standings.{held-nothing}
use Rattle.record_store.proofs.held_versions.first_among.Goals as goal

pub returns : goal.returns
returns c =
    sym (at_drop_all (λ (rows : List Row). option_or (first_held row_at row_key (take c.loop-place.left c.args.versions.now) rows) c.loop-place.found) c.args.index.now.rows c.loop-place.place (omega arith)
    ∙ held-nothing row_at row_key (take c.loop-place.left c.args.versions.now) c.loop-place.found)
    ∙ c.loop-place.invariant.rest
