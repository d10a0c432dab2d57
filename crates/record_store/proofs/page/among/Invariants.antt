use Rattle.std.proofs.Common.{◌≡◌, ◌++◌, drop}
use Rattle.std.specs.Prelude.{option_copied}
use Rattle.kube_meta.specs.Page.{listed}
use Rattle.record_store.specs.Rows.{row_key}
use Rattle.record_store.specs.inner.Picked.{rows_in}
use Rattle.record_store.proofs.page.among.Given as goal

abbrev pub invariant-loop-pick : goal.invariant-loop-pick
invariant-loop-pick l =
    rows_in l.left.items ++ listed row_key (option_copied l.ns) (option_copied l.after) (rows_in (drop l.pick-index l.picks)) ≡ listed row_key (option_copied l.ns) (option_copied l.after) (rows_in l.picks)
