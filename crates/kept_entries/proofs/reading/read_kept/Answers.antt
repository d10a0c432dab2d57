use Rattle.std.proofs.Common.{ap, sym, ◌∙◌}
use Rattle.std.proofs.lemmas.Result.{err_from_is_err_and}
use Rattle.kj_value.specs.Seen.{json}
use Rattle.kept_entries.specs.Entry.{are_in_order}
use Rattle.kept_entries.proofs.Refused.{not_kept, no_entries, out_of_order}
use Rattle.kept_entries.proofs.reading.read_kept.Goals as goal

pub returns-in_err-value-clause-err : goal.returns-in_err-value-clause-err
returns-in_err-value-clause-err c =
    let p = err_from_is_err_and c.from_residual.result c.from_residual.ensures.1 in
    rw (p.1, p.2) (not_kept c.args.text.now _ c.in_err-value.ensures.err)

pub returns-in_err-kept-clause-err : goal.returns-in_err-kept-clause-err
returns-in_err-kept-clause-err c =
    let p = err_from_is_err_and c.from_residual-in_err-kept.result c.from_residual-in_err-kept.ensures.1 in
    rw (p.1, p.2) (no_entries c.args.text.now (json c.in_ok-value.value) _ c.one_text.ensures c.in_ok-value.ensures.ok c.in_err-kept.ensures.err)

pub returns-then-not-rises-clause-err : goal.returns-then-not-rises-clause-err
returns-then-not-rises-clause-err c =
    out_of_order c.args.text.now (json c.in_ok-value.value) c.in_ok-kept.kept c.one_text.ensures c.in_ok-value.ensures.ok c.in_ok-kept.ensures.ok (ap are_in_order (sym c.as_slice.ensures) ∙ sym c.are_in_order-rises.ensures ∙ c.if-not-rises.true)
