use Rattle.std.proofs.Common.{◌≡◌, map, take, drop}
use Rattle.record_store.specs.Copies.{copied}
use Rattle.record_store.specs.Inside.{item_of}
use Rattle.record_store.proofs.page.copies_from.Given as goal

abbrev pub invariant-loop-i : goal.invariant-loop-i
invariant-loop-i l = map copied l.items.items ≡ map (item_of l.region) (take l.i (drop l.from l.index.rows))
