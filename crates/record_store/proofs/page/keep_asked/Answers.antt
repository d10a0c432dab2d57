use Rattle.std.proofs.Common.{sym, ap, ◌∙◌}
use Rattle.std.specs.Prelude.{option_copied}
use Rattle.record_store.specs.inner.Picked.{rows_in}
use Rattle.record_store.proofs.Steps.{kept_in, kept_out}
use Rattle.record_store.proofs.page.keep_asked.Goals as goal

pub returns-then-not-is_listed : goal.returns-then-not-is_listed
returns-then-not-is_listed c =
    kept_out (option_copied c.args.ns) (option_copied c.args.after) c.args.left.now.items c.args.pick (sym c.is_listed.ensures ∙ c.if-not-is_listed.true)

pub returns : goal.returns
returns c =
    ap rows_in c.in_ok-push.ensures.items ∙ kept_in (option_copied c.args.ns) (option_copied c.args.after) c.args.left.now.items c.args.pick (sym c.is_listed.ensures ∙ c.if-not-is_listed.false)
