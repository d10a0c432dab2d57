use Rattle.std.proofs.Common.{sym, ap, List, ◌∙◌}
use Rattle.std.specs.Prelude.{drop}
use Rattle.record_store.specs.Rows.{row_key}
use Rattle.record_store.specs.declared.row.Row.{Row}
use Rattle.record_store.specs.inner.Picked.{ends, rows_in, merged, standing}
use Rattle.record_store.proofs.Steps.{standing_in, standing_out}
use Rattle.record_store.proofs.page.merge_standing.Goals as goal

pub returns-then-not-stands-clause-merged : goal.returns-then-not-stands-clause-merged
returns-then-not-stands-clause-merged c = λ rest.
    ap (λ (l : List Row). ends c.args.listing.now l) (sym (standing_out c.args.rv c.args.row.now rest (rows_in (drop c.args.from c.args.olds.now)) (sym c.stands.ensures ∙ c.if-not-stands.true)))

pub returns-clause-merged : goal.returns-clause-merged
returns-clause-merged c = λ rest.
    c.in_ok-next.ensures.merged (merged row_key (standing c.args.rv rest))
    ∙ ap (λ (l : List Row). ends c.args.listing.now l) (sym (standing_in c.args.rv c.args.row.now rest (rows_in (drop c.args.from c.args.olds.now)) (sym c.stands.ensures ∙ c.if-not-stands.false)))
