use Rattle.std.proofs.Common.{◌≡◌, ◌++◌, map}
use Rattle.std.specs.Vec.Iter.{into_iter_items}
use Rattle.kj_value.specs.Json.{text}
use Rattle.kj_value.specs.Seen.{json}
use Rattle.kept_entries.proofs.reading.read_path.Given as goal

abbrev pub invariant-loop-item : goal.invariant-loop-item
invariant-loop-item l = l.fn.items ≡ map text l.path ++ map json (into_iter_items l.item-iterator)
