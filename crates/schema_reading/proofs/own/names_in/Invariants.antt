use Rattle.std.proofs.Common.{◌≡◌, ◌++◌, drop, map, filter}
use Rattle.kj_value.specs.Json.{items_of}
use Rattle.kj_value.specs.Seen.{json}
use Rattle.schema_reading.specs.OwnRead.{is_counted, texts_in}
use Rattle.schema_reading.proofs.own.names_in.Given as goal

abbrev pub invariant-loop-x : goal.invariant-loop-x
invariant-loop-x l =
    l.names ++ filter (is_counted l.root) (texts_in (items_of (map json (drop l.x-index l.items)))) ≡ filter (is_counted l.root) (texts_in (items_of (map json l.items)))
