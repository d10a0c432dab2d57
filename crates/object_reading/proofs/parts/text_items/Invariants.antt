use Rattle.std.proofs.Common.{◌≡◌, ◌++◌, map}
use Rattle.std.specs.Vec.Iter.{into_iter_items}
use Rattle.kj_value.specs.Seen.{json}
use Rattle.object_reading.specs.Parts.{text_items}
use Rattle.object_reading.proofs.parts.text_items.Given as goal

-- what is there and what is left make the whole
abbrev pub invariant-loop-item : goal.invariant-loop-item
invariant-loop-item l = l.texts ++ text_items (map json (into_iter_items l.item-iterator)) ≡ text_items l.fn.items
