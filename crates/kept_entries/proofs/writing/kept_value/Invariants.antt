use Rattle.std.proofs.Common.{◌≡◌, map, take}
use Rattle.kept_entries.specs.Text.{entry_json}
use Rattle.kept_entries.proofs.writing.kept_value.Given as goal

abbrev pub invariant-loop-e : goal.invariant-loop-e
invariant-loop-e l = l.items ≡ map entry_json (take l.e-index l.e-items)
