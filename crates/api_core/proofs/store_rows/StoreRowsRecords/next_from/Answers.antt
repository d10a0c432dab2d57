use Rattle.std.proofs.Common.{◌∙◌, sym, Some, None}
use Rattle.std.specs.Option.{option_copied}
use Rattle.kube_meta.specs.Page.{bound_after}
use Rattle.api_core.proofs.RowsRead.{rows-rise, next-rows}
use Rattle.api_core.proofs.store_rows.StoreRowsRecords.next_from.Goals as goal

pub returns-in-Some-clause-next : goal.returns-in-Some-clause-next
returns-in-Some-clause-next c =
    next-rows (bound_after (option_copied c.args.after)) c.args.self.now.store.now.items (Some (c.in-Some.key, c.in-Some.record)) (sym c.in-Some.is ∙ c.next_from.ensures)

pub returns-in-Some-clause-order : goal.returns-in-Some-clause-order
returns-in-Some-clause-order c = rows-rise c.args.self.now.store.now.items c.len-count.ensures.sound.order

pub returns-in-None-clause-next : goal.returns-in-None-clause-next
returns-in-None-clause-next c = next-rows (bound_after (option_copied c.args.after)) c.args.self.now.store.now.items None (sym c.in-None.is ∙ c.next_from.ensures)

pub returns-in-None-clause-order : goal.returns-in-None-clause-order
returns-in-None-clause-order c = rows-rise c.args.self.now.store.now.items c.len-count.ensures.sound.order
