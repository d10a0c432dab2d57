use Rattle.std.proofs.Common.{◌≡◌, ◌++◌, map}
use Rattle.std.specs.Vec.Iter.{into_iter_items}
use Rattle.record_store.specs.Copies.{copied}
use Rattle.api_core.specs.Prepared.{seen_item}
use Rattle.api_core.proofs.pages.seen_items.Given as goal

abbrev pub invariant-loop-stored : goal.invariant-loop-stored
invariant-loop-stored l = map copied l.fn.records.items ≡ map seen_item l.items.items ++ map copied (into_iter_items l.stored-iterator)
