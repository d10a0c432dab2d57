use Rattle.std.proofs.Common.{◌≡◌, map, take}
use Rattle.kj_value.specs.Json.{text}
use Rattle.kj_value.specs.Texts.{bytes_of}
use Rattle.kept_entries.proofs.writing.path_value.Given as goal

abbrev pub invariant-loop-name : goal.invariant-loop-name
invariant-loop-name l = l.items ≡ map text (map bytes_of (take l.name-index l.name-items))
